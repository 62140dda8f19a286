pub mod Bodies
pub mod Calls
pub mod Errors
pub mod Paths
pub mod Short
pub mod Table
