pub mod Text
pub mod Left
pub mod Found
pub mod Bodies
pub mod Cases
pub mod Accepted
