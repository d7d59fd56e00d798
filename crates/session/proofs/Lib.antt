pub mod ArraysKept
pub mod SessionExamples
