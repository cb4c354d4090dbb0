pub mod Rep
