pub mod SourceLaws
pub mod WidthLaws
pub mod ReaderLaws
pub mod TableLaws
