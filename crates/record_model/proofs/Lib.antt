pub mod RecordLaws
