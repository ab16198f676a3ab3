pub mod Says
pub mod Inside
