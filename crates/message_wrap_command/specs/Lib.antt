pub mod WrapCommand
pub mod WrittenCommand
