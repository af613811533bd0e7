pub mod Claim
pub mod Rising
