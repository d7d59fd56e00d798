pub mod Calls
pub mod RefusalKeeps
pub mod CommandChaining
pub mod ResponseChaining
pub mod ChainedCommand
pub mod ChainedResponse
pub mod HonestExchanges
