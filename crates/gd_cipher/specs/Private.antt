pub mod Equivalents
pub mod RoundKeys
pub mod Tables
