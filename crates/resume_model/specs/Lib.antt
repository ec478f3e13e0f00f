-- Open first: Resume.antt, then ResumeLaws.antt.
pub mod Resume
pub mod StepLaws
