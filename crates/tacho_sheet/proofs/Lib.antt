pub mod EntryLemmas
pub mod SignedLemmas
pub mod BatchLemmas
pub mod TextLemmas
pub mod NumberLemmas
pub mod DriverLemmas
pub mod ValueLemmas
pub mod RowLemmas
pub mod AmountLemmas
pub mod SheetLemmas
pub mod MarkLemmas
pub mod OneLemmas
pub mod FormLemmas
pub mod MonthLemmas
pub mod ColumnLemmas
pub mod FilledLemmas
mod AcceptedLemmas
pub mod FilledTextLemmas
pub mod ChartLemmas
mod PageFacts
pub mod EvidenceLemmas
pub mod AheadLemmas
pub mod RowsLemmas
pub mod RowLawLemmas
pub mod WhyLemmas
pub mod WhyLawLemmas
mod FaultLemmas
