pub mod Filling
pub mod Plans
pub mod Unlistened
pub mod Transport
pub mod InTurn
pub mod Commands
pub mod Live
pub mod private
