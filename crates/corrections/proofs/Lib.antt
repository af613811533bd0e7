pub mod Short29
pub mod Fullness30
pub mod Depth31
pub mod Gathered
