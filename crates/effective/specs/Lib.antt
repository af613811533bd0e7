pub mod Unrounded
