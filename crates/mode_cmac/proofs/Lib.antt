pub mod BlockByBlock
pub mod WholeMessage
pub mod Theorems
