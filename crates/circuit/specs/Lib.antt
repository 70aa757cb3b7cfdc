pub mod Code
pub mod Circuit
pub mod Building
pub mod Renumbering
pub mod Opened
pub mod Order
pub mod Shown
