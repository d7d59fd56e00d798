pub mod Covered
pub mod Written
