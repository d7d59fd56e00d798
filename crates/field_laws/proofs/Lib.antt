pub mod Noted
pub mod Acceptance
pub mod Determined
pub mod ReadBack
pub mod Shortest
pub mod CoveredWritten
pub mod AcceptedRules
pub mod EncryptedBlocks
