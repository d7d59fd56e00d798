pub mod Object
pub mod Step
pub mod Values
