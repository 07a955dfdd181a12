pub mod Between
pub mod Agreeing
pub mod Chains
pub mod Apart
pub mod Laying
