pub mod Listings
pub mod Lists
pub mod Private
pub mod Texts
