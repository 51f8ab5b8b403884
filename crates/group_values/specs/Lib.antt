pub mod Drawing
pub mod Values
