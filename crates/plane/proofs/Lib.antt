pub mod Machine
pub mod Signs
pub mod Edges
pub mod Box
pub mod Crosses
pub mod Fractions
