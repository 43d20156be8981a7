pub mod Cache
pub mod Exception
pub mod Machine
pub mod Mmu
pub mod Privilege
