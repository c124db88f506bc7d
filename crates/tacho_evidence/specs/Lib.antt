pub mod Driven
pub mod Evidence
pub mod Totals
pub mod DaysInTime
pub mod Anew
pub mod OfReport
pub mod Periods
