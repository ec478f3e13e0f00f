-- Open first: Forms.antt, then Operands.antt.
pub mod Forms
pub mod Operands
pub mod TableLaws
pub mod OperandLaws
pub mod RowLaws
