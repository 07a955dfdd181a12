pub mod Told
pub mod Met
pub mod ToldTide
pub mod ToldYear
pub mod Sounded
pub mod Laws
