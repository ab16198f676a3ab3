pub mod ItemWays
pub mod OwnWays
pub mod LateWays
pub mod AllWays
pub mod Turn
pub mod Inside
pub mod Wrong
