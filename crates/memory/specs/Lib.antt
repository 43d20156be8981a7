pub mod Gate
pub mod Memory
pub mod Span
