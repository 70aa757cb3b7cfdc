pub mod Read
pub mod Reply
