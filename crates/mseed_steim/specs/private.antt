-- Words of private functions and of proofs alone, which change as the code does: no public contract is stated by them.
pub mod Digits
pub mod Items
pub mod Reads
pub mod Steps
pub mod Lanes
pub mod Moves
pub mod Unpacked
pub mod Sums
