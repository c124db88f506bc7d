pub mod Step
pub mod Counted
pub mod Weeks
pub mod Laws
