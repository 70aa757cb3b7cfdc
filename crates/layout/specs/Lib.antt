pub mod Ranges
pub mod Planned
pub mod EntryWords
pub mod PlannedLaws
pub mod NewRow
pub mod PlannedNode
pub mod Layout
pub mod Laid
