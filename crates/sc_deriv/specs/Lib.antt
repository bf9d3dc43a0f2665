pub mod Spelling
pub mod Acceptance
pub mod Judging
pub mod OpenPaths
pub mod Laws
pub mod Same
pub mod Taking
