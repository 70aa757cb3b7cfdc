pub mod Holders
pub mod Queue
pub mod Wanted
pub mod ZeroRun
pub mod NextClock
