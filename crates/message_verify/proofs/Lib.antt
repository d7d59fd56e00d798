pub mod InMemory
pub mod Stages
pub mod Received
pub mod Opened
