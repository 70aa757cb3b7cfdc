pub mod Renumbering
pub mod Trimming
