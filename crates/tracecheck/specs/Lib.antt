pub mod Signals
pub mod Bench
