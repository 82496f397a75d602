pub mod Linked
pub mod Walks
pub mod Told
