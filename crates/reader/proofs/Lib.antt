pub mod Ahead
pub mod Finding
pub mod Gathering
pub mod Dues
pub mod Accepting
pub mod Naming
