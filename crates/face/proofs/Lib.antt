pub mod Room
pub mod Theorems
