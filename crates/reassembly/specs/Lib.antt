pub mod Laws
pub mod Reassembly
pub mod Segments
