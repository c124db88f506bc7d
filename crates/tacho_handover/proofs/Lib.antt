pub mod TextLemmas
pub mod CoverLemmas
pub mod HandedLemmas
pub mod ParcelLemmas
