pub mod Kind
pub mod Room
pub mod Unchecked
pub mod Code
pub mod Good
