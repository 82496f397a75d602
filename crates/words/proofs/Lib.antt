pub mod Cuts
pub mod Splits
pub mod Spelt
