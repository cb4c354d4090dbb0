pub mod HostCalls
pub mod CallsDemand
pub mod Joined
pub mod RightCalls
pub mod Wrong
