pub mod Rows
pub mod Loading
pub mod Filling
pub mod Clock
pub mod Next
pub mod Settling
pub mod Coded
