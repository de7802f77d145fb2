pub mod Cutting
pub mod Calling
pub mod Granting
pub mod Keeping
pub mod Waiting
