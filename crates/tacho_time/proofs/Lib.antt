pub mod CanonicalLemmas
pub mod ExistenceLemmas
mod CivilLemmas
mod ReadLemmas
mod MonthLemmas
mod DigitLemmas
pub mod ReadBackLemmas
mod PageFacts
