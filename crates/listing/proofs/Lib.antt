pub mod Chains
pub mod Figures
