pub mod Rows
pub mod Verdict
pub mod Clocks
pub mod ListNet
