pub mod Rests
pub mod MainRests
pub mod DutyDays
