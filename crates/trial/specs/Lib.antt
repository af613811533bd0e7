pub mod Poop
pub mod Standing
