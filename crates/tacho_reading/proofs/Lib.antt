pub mod OrderedLemmas
pub mod RowLemmas
pub mod FaultyLemmas
pub mod StateLemmas
mod PassingLemmas
pub mod DriverRowLemmas
mod KeyLemmas
pub mod NearRowLemmas
pub mod DownloadLemmas
pub mod EntryLemmas
pub mod MappedLemmas
pub mod LookUpLemmas
pub mod SeenLemmas
pub mod TellLemmas
mod ReadingLemmas
mod ExtentLemmas
mod TimelineLemmas
pub mod ApartLemmas
mod ListedLemmas
mod TakingLemmas
mod SummaryLemmas
mod ReportLemmas
pub mod LineWithinLemmas
mod TakenLemmas
mod StretchingLemmas
mod BegunLemmas
