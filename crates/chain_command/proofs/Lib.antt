pub mod Answers
pub mod Sizes
pub mod WrittenApdu
pub mod ExactShapes
pub mod TakenFragment
pub mod WholeCommand
pub mod PossibleChains
pub mod Theorems
