pub mod Counted
pub mod ByCode
pub mod Rows
pub mod RowCodes
