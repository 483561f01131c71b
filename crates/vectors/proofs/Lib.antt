-- Lemmas that the proofs of functions cite.
mod Calling
mod Digests
mod Filling
