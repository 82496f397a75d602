pub mod Spans
pub mod Tests
pub mod Worked
