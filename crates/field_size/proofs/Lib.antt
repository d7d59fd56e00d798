pub mod LengthBounds
