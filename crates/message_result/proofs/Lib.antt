pub mod Checks
pub mod StageEnds
