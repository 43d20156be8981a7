pub mod Laid
pub mod Found
pub mod Scene
pub mod Witness
pub mod Counterexamples
