pub mod Table27
pub mod Table28
pub mod Rule27
pub mod Rule28
