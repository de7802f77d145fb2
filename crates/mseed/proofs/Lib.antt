pub mod Asking
pub mod Encodings
mod ReadFiles
mod FromArguments
mod Lines
mod Done
