pub mod Answers
pub mod WrittenFragment
pub mod ExactShapes
pub mod WholeResponse
pub mod PossibleChains
pub mod Theorems
