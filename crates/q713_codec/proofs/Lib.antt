pub mod Arms
pub mod ReadBack
