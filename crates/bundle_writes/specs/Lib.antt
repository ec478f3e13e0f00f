pub mod Words
pub mod Lookup
pub mod Transfers
