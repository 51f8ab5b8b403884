pub mod Firsts
pub mod Knowledge
pub mod Private
pub mod Secrecy
pub mod Serving
pub mod Worlds
