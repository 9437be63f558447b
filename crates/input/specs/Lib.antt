pub mod Splits
pub mod Lines
pub mod Places
pub mod Recorded
