pub mod Bucket
pub mod Laws
