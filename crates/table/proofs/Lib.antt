pub mod Rows
pub mod Lowering
pub mod Holding
pub mod Swapping
pub mod Taking
pub mod Putting
pub mod Branching
pub mod Walking
