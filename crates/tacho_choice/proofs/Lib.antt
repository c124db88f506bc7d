pub mod CasesLemmas
pub mod ChoicesLemmas
pub mod OutcomesLemmas
pub mod ConnectingLemmas
pub mod GatheringLemmas
pub mod LawfulLemmas
pub mod SeenLemmas
