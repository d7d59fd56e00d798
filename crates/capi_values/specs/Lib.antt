pub mod Values
pub mod ChainingValues
