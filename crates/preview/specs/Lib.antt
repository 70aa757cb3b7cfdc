pub mod Counting
pub mod Previewing
