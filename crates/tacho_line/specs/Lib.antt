pub mod Line
pub mod Search
pub mod Walk
pub mod Join
pub mod Gains
pub mod Local
