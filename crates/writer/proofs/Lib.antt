pub mod Adding
pub mod Digits
pub mod Finding
pub mod Progress
pub mod Spans
pub mod Answering
pub mod Solid
pub mod Reading
