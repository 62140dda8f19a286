pub mod Compare
pub mod Laws
pub mod Teams
