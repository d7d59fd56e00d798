pub mod Apdu
pub mod Fragment
pub mod Reassembly
pub mod Chains
