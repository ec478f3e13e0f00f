-- Open first: Written.antt and Read.antt.
pub mod Written
pub mod Read
pub mod PutLaws
pub mod RoomLaws
pub mod CopyLaws
