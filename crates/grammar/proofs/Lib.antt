pub mod Cuts
pub mod Splits
pub mod Gathering
pub mod Exact
pub mod Tested
pub mod Rooms
pub mod Following
