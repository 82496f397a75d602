pub mod Tops
pub mod Skies
