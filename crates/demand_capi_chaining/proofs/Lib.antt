pub mod Named
pub mod Below
pub mod Exists
pub mod RefusalKept
pub mod CommandChained
pub mod ResponseChained
pub mod Theorems
pub mod Instances
