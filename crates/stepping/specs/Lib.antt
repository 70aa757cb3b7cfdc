pub mod Step
pub mod StepLaws
pub mod NextLaws
pub mod Putting
pub mod Looking
pub mod Clock
