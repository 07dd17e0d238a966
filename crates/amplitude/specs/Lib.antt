pub mod Ring
pub mod Laws
pub mod Written
pub mod ReadBack
