pub mod Sounds
pub mod Passing
pub mod Changes
pub mod Telling
pub mod Loading
pub mod Loads
