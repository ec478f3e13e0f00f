-- Open first: Run.antt, then Loop.antt.
pub mod Run
pub mod RunLaws
pub mod RefusalLaws
pub mod ReplayLaws
pub mod SplitLaws
pub mod Loop
pub mod LoopLaws
