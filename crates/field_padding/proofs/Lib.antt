pub mod Lengths
pub mod Unpadding
pub mod Examples
pub mod PaddingRule
