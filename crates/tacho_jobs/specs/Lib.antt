pub mod Ended
pub mod Jobs
