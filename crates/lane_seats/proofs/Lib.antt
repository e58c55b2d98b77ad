pub mod SeenLemmas
pub mod GrowLemmas
pub mod Sent
