pub mod Rules
pub mod Listed
