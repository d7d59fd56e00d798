pub mod CallExamples
