pub mod Sums
pub mod MixColumn
pub mod FourBits
pub mod Undo
