pub mod Files
pub mod Filing
pub mod History
pub mod Calls
pub mod Promises
pub mod Soundness
pub mod Worked
pub mod Owner
