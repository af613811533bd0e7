pub mod Bound
pub mod Particulars
pub mod Depth
pub mod Types
pub mod SetIn
pub mod Timber
