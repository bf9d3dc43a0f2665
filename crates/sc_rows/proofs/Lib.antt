pub mod Mapped
pub mod Sound
pub mod Items
