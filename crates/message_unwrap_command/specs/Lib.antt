pub mod UnwrapCommand
