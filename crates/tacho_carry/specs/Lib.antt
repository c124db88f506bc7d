pub mod Carried
pub mod Sound
pub mod Carrying
