pub mod Passing
pub mod Trial
pub mod Amidships
