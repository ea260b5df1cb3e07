pub mod Places
pub mod Told
pub mod Views
pub mod Answers
pub mod Inner
pub mod Calls
pub mod Laws
