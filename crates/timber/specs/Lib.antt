pub mod Timber
pub mod Exact
pub mod Answer
pub mod Printed
