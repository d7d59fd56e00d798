pub mod BigEndian
pub mod Examples
pub mod Library
