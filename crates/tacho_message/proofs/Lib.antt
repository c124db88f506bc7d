pub mod ReadLemmas
pub mod HeadLemmas
pub mod FieldLemmas
pub mod ReplyLemmas
pub mod PageFacts
