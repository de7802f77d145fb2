-- Words of private functions and of proofs alone, which change as the code does: no public contract is stated by them.
pub mod Delivery
pub mod Parts
pub mod Replying
pub mod Lines
