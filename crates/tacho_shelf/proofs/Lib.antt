pub mod PlaceLemmas
pub mod RowLemmas
pub mod GainLemmas
pub mod KeptLemmas
pub mod RangeLemmas
pub mod CallLemmas
pub mod SummaryLemmas
