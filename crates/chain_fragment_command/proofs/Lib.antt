pub mod Apdus
pub mod Parts
