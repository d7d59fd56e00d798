pub mod ChainNumbers
pub mod CallExamples
