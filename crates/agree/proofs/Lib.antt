-- What the proofs of this crate's functions use.
mod Comparing
