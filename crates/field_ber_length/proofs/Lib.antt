pub mod LengthForms
