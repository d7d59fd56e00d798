pub mod Room
pub mod StartChanged
pub mod Encrypted
