pub mod Places
pub mod Spans
