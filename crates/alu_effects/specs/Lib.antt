pub mod AluEffects
pub mod AluEffectLaws
