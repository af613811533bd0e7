pub mod Sheet
pub mod Covered
pub mod Demand
pub mod Split
pub mod OneToOne
pub mod Types
pub mod SetIn
pub mod Timber
