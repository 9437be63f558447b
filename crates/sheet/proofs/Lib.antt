pub mod Scans
pub mod Texts
