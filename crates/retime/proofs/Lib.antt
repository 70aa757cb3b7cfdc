pub mod LayingLaws
pub mod LaidLaws
