pub mod Further
pub mod MoreRows
pub mod Texts
pub mod Walking
pub mod Copying
pub mod Asking
