pub mod Premises
pub mod Demand3
pub mod Events
