pub mod Limits
pub mod Calendar
pub mod Text
pub mod Device
pub mod Reading
pub mod Spans
pub mod Merge
pub mod OrMemory
