pub mod States
pub mod Summed
pub mod Words
pub mod Accesses
pub mod Events
pub mod Runs
pub mod ByValue
pub mod Sentences
