pub mod Turns
pub mod Owners
pub mod Replay
pub mod Tells
pub mod Backs
pub mod There
pub mod Numbered
