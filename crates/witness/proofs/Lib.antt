pub mod Layouts
pub mod Computed
pub mod Shown
pub mod Broken
