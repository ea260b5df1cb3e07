pub mod Bytes
pub mod Digits
pub mod Decimal
pub mod Splits
pub mod Openings
pub mod Places
pub mod Next
