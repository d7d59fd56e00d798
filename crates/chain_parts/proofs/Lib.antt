pub mod Ceiling
pub mod PartEnds
