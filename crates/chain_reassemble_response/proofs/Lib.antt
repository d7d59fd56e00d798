pub mod ResponseCases
