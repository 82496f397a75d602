pub mod Naming
pub mod Passing
pub mod Loading
pub mod Calls
