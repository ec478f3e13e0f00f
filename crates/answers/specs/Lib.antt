-- Open first: Answer.antt and Refusal.antt, then Test.antt.
pub mod Answer
pub mod Refusal
pub mod Test
pub mod TestLaws
