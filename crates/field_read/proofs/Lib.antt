pub mod Examples
pub mod Walk
