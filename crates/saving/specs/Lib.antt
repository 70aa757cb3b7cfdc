pub mod Firsts
pub mod Encoded
pub mod Lengths
