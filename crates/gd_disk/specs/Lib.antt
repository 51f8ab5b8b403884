pub mod Disks
pub mod Media
pub mod MediaLaws
pub mod MomentLaws
pub mod Moments
pub mod Private
