pub mod Parts
pub mod Laid
pub mod Shares
pub mod Opening
pub mod Turns
pub mod Reading
pub mod Wrong
