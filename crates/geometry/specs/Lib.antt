pub mod Relations
pub mod Laws
