pub mod Largest
pub mod InFile
pub mod Verdicts
