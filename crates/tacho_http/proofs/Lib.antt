mod RouteLemmas
mod RouteVectors
mod PartLemmas
mod AccessLemmas
mod RespondLemmas
mod HeadLemmas
pub mod RunLemmas
mod PageLemmas
mod LawLemmas
mod PageFacts
