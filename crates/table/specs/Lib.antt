pub mod Tables
pub mod Branches
pub mod Walks
pub mod Rows
