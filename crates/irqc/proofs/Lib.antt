pub mod Output
pub mod Source
pub mod Sources
pub mod Registers
pub mod Sentences
