-- Words of private functions and of proofs alone, which change as the code does: no public contract is stated by them.
pub mod Along
pub mod Bordered
pub mod LineReading
pub mod Parted
pub mod Steps
pub mod Taking
pub mod Reading
pub mod Found
pub mod Passing
