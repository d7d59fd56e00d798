pub mod Told
pub mod Exists
pub mod RefusalKept
pub mod Delivered
pub mod Runs
pub mod Theorems
