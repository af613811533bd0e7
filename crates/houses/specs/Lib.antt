pub mod Length
pub mod Height
pub mod Effective
pub mod Covered
pub mod Forecastle
pub mod Cover
pub mod Amidships
