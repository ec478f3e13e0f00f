-- Open first: lib.rt, then FlowLaws.antt.
pub mod FlowLaws
