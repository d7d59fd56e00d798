pub mod Ciphers
pub mod Aes
pub mod Toy
