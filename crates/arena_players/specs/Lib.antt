pub mod Results
pub mod Accounts
pub mod Facts
pub mod Candidates
pub mod Laws
