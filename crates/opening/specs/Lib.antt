pub mod Opening
pub mod Turn
