pub mod Letters
pub mod Views
pub mod Sound
