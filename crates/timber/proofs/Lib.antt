pub mod Computed
pub mod Bound
pub mod Order
pub mod OneToOne
pub mod Figures
