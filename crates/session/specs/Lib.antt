pub mod Texts
pub mod Pending
