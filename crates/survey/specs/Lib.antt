pub mod Normal
pub mod Places
pub mod First
pub mod Looks
pub mod Makers
pub mod Sizes
pub mod Measure
pub mod Survey
