pub mod ArrangementLoops
pub mod Made
pub mod Meant
pub mod Tried
