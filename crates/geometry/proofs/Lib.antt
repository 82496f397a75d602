pub mod Members
pub mod Once
pub mod Settling
pub mod Standing
pub mod Edges
pub mod Branches
pub mod Bounds
