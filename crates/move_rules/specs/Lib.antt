pub mod After
pub mod Legal
pub mod Exposed
pub mod Lists
pub mod EnPassant
pub mod Standing
pub mod Weight
pub mod Laws
