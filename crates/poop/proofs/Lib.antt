pub mod Replies
pub mod Theorems
pub mod Split
pub mod Flag
