pub mod Calls
pub mod RefusalKeeps
pub mod CommandChaining
pub mod ResponseChaining
