pub mod EntryByWords
