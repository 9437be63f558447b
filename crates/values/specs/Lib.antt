pub mod Faults
pub mod Grids
pub mod Tables
pub mod Answers
