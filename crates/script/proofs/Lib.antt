pub mod Bytes
pub mod Copies
pub mod Sentences
pub mod Figures
