pub mod Texts
pub mod Bodies
pub mod Walks
pub mod Items
pub mod Steps
pub mod Normal
