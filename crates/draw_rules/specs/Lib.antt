pub mod Appearance
pub mod Material
pub mod Packing
pub mod Laws
