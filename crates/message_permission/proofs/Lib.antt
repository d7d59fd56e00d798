pub mod PermittedValues
