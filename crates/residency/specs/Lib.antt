pub mod Residency
