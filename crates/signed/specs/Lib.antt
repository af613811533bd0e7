pub mod Signed
pub mod Formula
pub mod Summer
