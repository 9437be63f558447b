pub mod Named
mod Around
mod Taken
