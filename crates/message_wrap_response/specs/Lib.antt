pub mod WrapResponse
pub mod WrittenResponse
