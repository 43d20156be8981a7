pub mod Bits
pub mod Bytes
pub mod Cases
pub mod Lists
pub mod Refusal
