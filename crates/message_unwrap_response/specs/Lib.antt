pub mod UnwrapResponse
