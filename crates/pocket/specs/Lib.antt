pub mod Table
pub mod Gate
pub mod Order
