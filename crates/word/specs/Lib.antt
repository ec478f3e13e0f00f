pub mod Word
pub mod WordLaws
pub mod BoolLaws
