pub mod Replacing
pub mod Edges
pub mod Heights
pub mod Raising
pub mod Searched
pub mod Putting
pub mod Flat
