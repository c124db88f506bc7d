pub mod Plans
pub mod Ahead
pub mod Used
pub mod Outlook
pub mod Fed
pub mod Ended
pub mod DaysInTime
