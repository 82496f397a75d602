pub mod Turns
pub mod Said
pub mod Desks
pub mod Runs
pub mod Tells
