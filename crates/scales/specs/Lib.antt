pub mod Scales
pub mod Truths
pub mod Pairs
pub mod TruthLaws
pub mod PairLaws
pub mod Shown
