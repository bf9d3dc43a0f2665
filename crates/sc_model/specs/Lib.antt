pub mod Settled
pub mod Modelling
pub mod Deciding
