pub mod Command
pub mod Response
pub mod Transcript
pub mod Agreement
pub mod RefusalKeeps
pub mod HonestDelivery
