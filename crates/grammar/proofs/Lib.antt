pub mod Headers
pub mod Tags
pub mod Sound
pub mod Complete
