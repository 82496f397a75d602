pub mod Packs
pub mod Promise
pub mod Relation
pub mod Laws
pub mod Tells
