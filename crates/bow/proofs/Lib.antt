pub mod Cubic
pub mod Words
pub mod Bound
