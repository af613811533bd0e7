pub mod Deduction37
pub mod Rows
