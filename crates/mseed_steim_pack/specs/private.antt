-- Words of private functions and of proofs alone, which change as the code does: no public contract is stated by them.
pub mod Rows
pub mod Ahead
pub mod Four
pub mod Pushing
pub mod Wrapped
