pub mod Rule37
pub mod Rows
