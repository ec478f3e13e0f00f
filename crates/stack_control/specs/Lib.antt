-- Open first: lib.rt, then PlanLaws.antt.
pub mod PlanLaws
