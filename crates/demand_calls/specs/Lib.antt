pub mod Ran
pub mod Calls
pub mod RefusalKeeps
pub mod HonestDelivery
pub mod Agreement
