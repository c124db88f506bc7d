pub mod BreakBreaches
pub mod DayBreaches
pub mod DailyRests
pub mod DailyDriving
pub mod WeekBreaches
pub mod Choices
pub mod RestBreaches
