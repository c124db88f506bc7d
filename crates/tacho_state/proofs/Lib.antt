pub mod NumberLemmas
pub mod DisjointLemmas
pub mod NearLemmas
pub mod OrderLemmas
pub mod GainLemmas
pub mod WithdrawLemmas
pub mod EqualLemmas
pub mod PutLemmas
pub mod DistinctLemmas
pub mod ListedLemmas
pub mod RangeLemmas
mod NameLemmas
pub mod LeastLemmas
pub mod StepLemmas
pub mod MapLemmas
mod PartLemmas
pub mod ContentLemmas
pub mod ReadLemmas
pub mod RunLemmas
pub mod SummaryLemmas
