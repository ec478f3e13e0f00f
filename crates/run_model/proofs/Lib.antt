pub mod TriesLaws
pub mod FigureLaws
