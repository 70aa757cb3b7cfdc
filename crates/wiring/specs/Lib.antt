pub mod Wiring
pub mod WiringLaws
pub mod Links
