pub mod Coincide
