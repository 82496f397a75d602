pub mod Walks
pub mod Ahead
pub mod Places
pub mod Gives
pub mod Shows
pub mod Tells
