pub mod Memberships
pub mod Notes
pub mod Candidates
