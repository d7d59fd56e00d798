pub mod MacInput
pub mod Same
