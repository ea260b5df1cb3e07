pub mod Cases
pub mod Ledgers
pub mod Leading
