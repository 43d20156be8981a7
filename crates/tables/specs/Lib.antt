pub mod Refusal
pub mod Mapping
pub mod Words
pub mod Tables
pub mod Found
pub mod Meaning
