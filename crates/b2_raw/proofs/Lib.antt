pub mod Spare
pub mod Written
pub mod Rest
pub mod ReadBack
pub mod Called
