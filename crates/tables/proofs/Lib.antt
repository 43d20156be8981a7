pub mod Frames
pub mod Found
pub mod Judged
pub mod Written
pub mod Answered
pub mod Counted
pub mod Sentences
pub mod Searched
