pub mod Summer
pub mod Others
pub mod Printed
