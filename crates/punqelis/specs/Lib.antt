pub mod Code
pub mod CodeLaws
pub mod RunLaws
pub mod RewriteLaws
