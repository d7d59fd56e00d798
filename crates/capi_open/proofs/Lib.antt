pub mod Saved
pub mod CallExamples
