pub mod Reading
pub mod Decryption
pub mod VerifiedText
