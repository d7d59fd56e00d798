pub mod Serving
pub mod HandedOn
