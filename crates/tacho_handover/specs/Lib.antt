pub mod Covering
pub mod Contents
pub mod Handover
pub mod Parcel
