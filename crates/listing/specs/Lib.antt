pub mod Listing
pub mod Corners
