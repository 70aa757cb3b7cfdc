pub mod Numbers
pub mod Renumbering
