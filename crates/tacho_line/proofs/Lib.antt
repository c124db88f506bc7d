mod SearchLemmas
pub mod LineLemmas
mod HorizonLemmas
pub mod RangeLemmas
pub mod MergeLemmas
pub mod AddLemmas
mod GainLemmas
mod GapLaw
mod PageFacts
mod LocalLaw
