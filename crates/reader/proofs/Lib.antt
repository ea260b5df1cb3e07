mod Bound
mod Stored
mod Lasting
pub mod Refusing
