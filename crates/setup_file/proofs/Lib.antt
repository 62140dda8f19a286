pub mod Lists
pub mod Texts
pub mod Steps
pub mod Trees
pub mod Passes
pub mod Goods
pub mod JsonFaults
