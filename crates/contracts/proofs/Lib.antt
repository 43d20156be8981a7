pub mod Shapes
pub mod Words
pub mod Coincide
