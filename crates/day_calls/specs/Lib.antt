pub mod Gotten
