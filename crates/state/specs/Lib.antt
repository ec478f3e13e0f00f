-- Open first: whole_state.rt, then open.rt and Whole.antt.
pub mod Whole
pub mod Open
pub mod OpenLaws
