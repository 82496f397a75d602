pub mod Grammar
pub mod Cases
