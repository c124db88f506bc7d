pub mod MeantLemmas
mod ServeLemmas
mod ShownLemmas
mod AllLemmas
pub mod WordLemmas
mod OwnLemmas
mod PageFacts
mod ArgumentLemmas
mod HandoverLemmas
