pub mod StepCases
pub mod KeptLaws
pub mod WellFormedLaws
pub mod WellLaws
pub mod StackKept
pub mod FrameLaws
pub mod CountLaws
