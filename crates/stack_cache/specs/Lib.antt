pub mod Stack
pub mod Count
pub mod StackLaws
pub mod RangeLaws
