pub mod KeptLemmas
pub mod RunsLemmas
pub mod DrivingLemmas
pub mod BreaksLemmas
pub mod DaysLemmas
pub mod TouchingLemmas
pub mod MainRestLemmas
pub mod RoomLemmas
