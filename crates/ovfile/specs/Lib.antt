pub mod Values
pub mod Known
pub mod Firsts
