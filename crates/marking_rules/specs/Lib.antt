pub mod Rules
pub mod RuleLaws
