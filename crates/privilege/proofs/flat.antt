pub mod Banks
pub mod Numbers
pub mod Permits
pub mod States
pub mod Tables
