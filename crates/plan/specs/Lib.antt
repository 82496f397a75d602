pub mod Sound
pub mod Meaning
pub mod Rows
pub mod Reports
pub mod Calls
