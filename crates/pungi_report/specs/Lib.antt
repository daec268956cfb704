pub mod Fits
pub mod Same
pub mod Text
