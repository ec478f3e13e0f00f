pub mod CacheLaws
pub mod WordLaws
