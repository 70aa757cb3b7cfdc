pub mod Joined
pub mod Outcomes
pub mod Opened
