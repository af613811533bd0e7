pub mod Every
pub mod Rule27
pub mod Rule28
