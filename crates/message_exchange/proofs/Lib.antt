pub mod Places
pub mod Channel
pub mod Kept
pub mod Examples
