pub mod Filled
pub mod Served
pub mod Near
pub mod Kept
pub mod Clean
