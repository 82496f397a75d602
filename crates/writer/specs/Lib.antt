pub mod Bytes
pub mod Texts
pub mod Answers
pub mod Readings
pub mod Cases
