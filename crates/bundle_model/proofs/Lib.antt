pub mod BundleLaws
pub mod HeldLaws
pub mod ExecuteLaws
pub mod HandedLaws
