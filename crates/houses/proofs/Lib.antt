pub mod Order
pub mod Counted
pub mod Limits
pub mod Rounded
pub mod Midship
pub mod Foremost
pub mod Amidships
pub mod SetIn
