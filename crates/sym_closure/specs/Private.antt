-- Definitions that contracts of private functions alone cite.
pub mod Closed
pub mod Gains
pub mod Graphs
pub mod Marks
