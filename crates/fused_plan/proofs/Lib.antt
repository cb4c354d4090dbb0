mod Laws
pub mod Plans
