mod CommandLemmas
mod OfficeLemmas
mod WordsLemmas
mod PageFacts
mod AskedLemmas
mod FilesLemmas
