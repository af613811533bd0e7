pub mod Words
pub mod Rounded
pub mod Bound
