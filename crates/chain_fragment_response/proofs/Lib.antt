pub mod FragmentCases
pub mod Parts
