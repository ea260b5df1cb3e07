pub mod Answers
pub mod Ledger
pub mod Promises
pub mod Laws
pub mod Keeping
