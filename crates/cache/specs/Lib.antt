pub mod Bank
pub mod Cache
pub mod History
pub mod Meaning
pub mod Corners
pub mod Flat
