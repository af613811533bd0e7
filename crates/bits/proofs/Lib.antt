pub mod Radix
pub mod Fill
pub mod Joined
pub mod Cut
