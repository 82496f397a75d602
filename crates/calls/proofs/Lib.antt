pub mod Turning
pub mod Handing
pub mod Stepping
pub mod Running
pub mod Ending
pub mod Telling
