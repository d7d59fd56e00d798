pub mod ChainNumbers
pub mod Call
