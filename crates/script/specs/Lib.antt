pub mod Event
pub mod Header
pub mod Image
pub mod Meaning
pub mod Corners
