pub mod EditLaws
pub mod Presence
pub mod Steps
pub mod Histories
pub mod Worked
