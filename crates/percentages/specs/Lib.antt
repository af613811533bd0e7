pub mod Table37
pub mod Rule37
