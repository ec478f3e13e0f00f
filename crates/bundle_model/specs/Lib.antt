-- Open first: Bundle.antt, then Lookup.antt, Refusal.antt, Interrupt.antt, Counts.antt and Execute.antt.
pub mod Lookup
pub mod LookupLaws
pub mod Refusal
pub mod Interrupt
pub mod InterruptLaws
pub mod Counts
pub mod Bundle
pub mod Execute
pub mod TallyLaws
