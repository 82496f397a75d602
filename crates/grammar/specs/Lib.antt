pub mod Words
pub mod Lines
pub mod Forms
pub mod Relations
pub mod Laws
