pub mod Spelling
pub mod Degrees
pub mod Counts
