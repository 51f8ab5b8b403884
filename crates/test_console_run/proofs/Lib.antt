pub mod DerivationFacts
pub mod ReportFacts
pub mod RunFacts
pub mod ScriptFacts
