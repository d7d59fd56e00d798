pub mod FieldLengths
pub mod Examples
