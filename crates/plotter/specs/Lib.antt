pub mod Plots
pub mod Within
pub mod Said
pub mod Cases
