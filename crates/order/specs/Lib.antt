pub mod Pass
pub mod Order
pub mod OrderLaws
