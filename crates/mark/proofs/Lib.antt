pub mod Bound
pub mod OneToOne
pub mod Given
