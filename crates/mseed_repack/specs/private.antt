-- Words of private functions and of proofs alone, which change as the code does: no public contract is stated by them.
pub mod Archives
pub mod Outline
pub mod Places
pub mod Planning
pub mod Reading
pub mod Restretching
pub mod Supplying
pub mod Links
pub mod Nexts
