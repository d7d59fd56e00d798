pub mod Valid
pub mod ZeroBytes
