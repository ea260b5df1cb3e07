pub mod Text
pub mod Checks
pub mod BySession
pub mod Stamps
pub mod Reports
pub mod Laws
