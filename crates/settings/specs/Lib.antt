-- Open first: Setup.antt, then Settings.antt.
pub mod Setup
pub mod Settings
pub mod SettingsLaws
pub mod SetupLaws
