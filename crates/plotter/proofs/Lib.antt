pub mod Room
pub mod Told
pub mod Seeing
pub mod Accepted
pub mod Saying
