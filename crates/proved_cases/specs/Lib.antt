-- Open first: Cases.antt, then Words.antt, Machine.antt and Handbook.antt.
pub mod Case
pub mod Words
pub mod Handbook
pub mod Run
pub mod Machine
pub mod Late
pub mod Interrupts
