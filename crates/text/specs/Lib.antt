-- Open first: Field.antt, then Number.antt.
pub mod Number
pub mod NumberLaws
pub mod Field
pub mod FieldLaws
pub mod DecimalLaws
pub mod Page
pub mod PageLaws
pub mod Table
pub mod TableLaws
