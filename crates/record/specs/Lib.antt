pub mod Layout
pub mod Words
pub mod Reading
pub mod Writing
