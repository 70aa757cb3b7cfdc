pub mod Head
pub mod Parts
pub mod Fields
