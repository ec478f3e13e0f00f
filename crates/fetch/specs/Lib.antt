pub mod Fetch
pub mod FetchLaws
