pub mod Laying
pub mod Standing
pub mod Turns
pub mod Present
pub mod Records
pub mod Filling
pub mod Showing
pub mod Telling
