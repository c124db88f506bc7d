mod BlockLaw
mod BlockLemmas
mod ChainLaw
mod ChainLemmas
mod ChosenLemmas
mod FileLaw
mod FileLemmas
pub mod FileReadingLaw
mod FirstLemmas
mod GivesLemmas
mod RawLemmas
mod ReadingLaw
mod RecordLaw
mod SingleLemmas
mod WordLemmas
mod WrapLemmas
mod PageFacts
