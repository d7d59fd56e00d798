pub mod ValueExamples
pub mod ChainingValueExamples
pub mod Numbers
