pub mod Reader
pub mod Field
