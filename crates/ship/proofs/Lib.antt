pub mod First
pub mod Lines
pub mod Accepted
pub mod OneToOne
pub mod Passing
pub mod Zero
pub mod Split
pub mod Timber
