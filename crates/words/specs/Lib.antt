pub mod Words
pub mod Lines
pub mod Numbers
pub mod Arguments
