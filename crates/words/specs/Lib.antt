pub mod Words
pub mod Split
pub mod Numbers
