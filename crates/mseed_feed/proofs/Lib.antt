pub mod Fills
pub mod OneFilling
pub mod Numbered
mod Kept
mod InTurn
mod Dialled
mod Served
