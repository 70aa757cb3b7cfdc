pub mod Spread
pub mod CycleLaws
pub mod Falls
