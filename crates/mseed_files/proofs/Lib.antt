pub mod Held
pub mod OnePlace
pub mod Opening
pub mod Kept
