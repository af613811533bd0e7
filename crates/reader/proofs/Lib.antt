pub mod Frame
pub mod OneAnswer
