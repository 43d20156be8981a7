pub mod Masks
pub mod Search
pub mod Pages
pub mod Flats
pub mod Sentences
