pub mod Grown
pub mod Left
pub mod Looking
pub mod Turning
