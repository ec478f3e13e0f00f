pub mod KeptState
