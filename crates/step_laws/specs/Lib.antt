-- Open first: StepCases.antt, then WellLaws.antt and CountLaws.antt.
pub mod LookupLaws
pub mod StepCases
