pub mod Standing
pub mod Dealings
pub mod Histories
pub mod Laws
