pub mod Words
pub mod Order
pub mod Members
pub mod Joined
pub mod Placed
pub mod Forms
pub mod Lengths
pub mod Formed
