pub mod Recordings
pub mod Faults
pub mod Plain
pub mod Opens
pub mod PlainLaws
