pub mod Head
pub mod Look
pub mod Fields
pub mod Reply
pub mod Length
pub mod Request
pub mod Body
