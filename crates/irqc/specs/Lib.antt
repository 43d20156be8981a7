pub mod Irqc
pub mod Meaning
