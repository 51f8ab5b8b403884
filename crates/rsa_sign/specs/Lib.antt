pub mod KeyTexts
pub mod Keys
pub mod Messages
pub mod Signatures
