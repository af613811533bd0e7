pub mod Deduction37
pub mod Tenth37
