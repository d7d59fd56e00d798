pub mod Calls
pub mod RefusalKeeps
pub mod Agreement
pub mod HonestDelivery
pub mod Exists
