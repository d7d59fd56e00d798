pub mod Required
pub mod Among
pub mod Refusals
