pub mod Written
pub mod Turn
pub mod Copied
pub mod NodeWritten
