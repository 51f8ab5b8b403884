pub mod Arguments
pub mod Commands
pub mod Options
pub mod Private
