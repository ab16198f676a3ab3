pub mod TagTests
pub mod Masks
pub mod Arms
pub mod Listing
pub mod Wrong
