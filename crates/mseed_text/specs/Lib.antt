pub mod Fault
pub mod Name
pub mod Shown
pub mod Time
