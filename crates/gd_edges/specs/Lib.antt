pub mod Draws
pub mod Faults
pub mod Shown
pub mod Signatures
pub mod Texts
