-- Words of private functions and of proofs alone, which change as the code does: no public contract is stated by them.
pub mod Blockettes
pub mod Words
