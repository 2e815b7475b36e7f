pub mod Appends
pub mod Links
pub mod Spans
