pub mod ObjectCases
pub mod Inversion
pub mod RightSizes
