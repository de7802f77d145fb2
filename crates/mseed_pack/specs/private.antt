-- Words of private functions and of proofs alone, which change as the code does: no public contract is stated by them.
pub mod Filling
pub mod Heads
pub mod KnownSamples
pub mod Spans
