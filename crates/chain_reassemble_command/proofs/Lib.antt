pub mod CommandCases
pub mod Shapes
