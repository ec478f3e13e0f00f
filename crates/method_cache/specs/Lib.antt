-- Open first: MethodCache.antt, then CacheLaws.antt and Words.antt.
pub mod MethodCache
pub mod Words
pub mod LoopLaws
