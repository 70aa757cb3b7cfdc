pub mod Open
pub mod Services
pub mod TablePlaces
pub mod Opens
pub mod Serves
