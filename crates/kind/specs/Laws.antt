-- The proofs that the three kinds keep the laws, and the lemmas that definitions need for their proof fields. They stand
-- here since each `impl Kind` hands over the proof of its laws; what the kinds do is read without them.
pub mod Bytes
pub mod Passing
pub mod Arrangements
pub mod BankMaps
pub mod Xors
pub mod Blocks
pub mod Tallies
