pub mod Packing
pub mod Packed
pub mod Lookahead
pub mod private
