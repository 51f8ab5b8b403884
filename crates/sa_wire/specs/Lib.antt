pub mod Attributes
pub mod Numbers
pub mod Policies
pub mod Rules
pub mod Texts
