pub mod Decimals
pub mod Marked
