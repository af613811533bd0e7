pub mod Kinds
pub mod Vessel
pub mod Refusals
pub mod Checks
pub mod Good
pub mod Printed
