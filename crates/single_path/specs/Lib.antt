pub mod Check
pub mod WalkLaws
pub mod CheckLaws
pub mod FoundLaws
pub mod LoopLaws
