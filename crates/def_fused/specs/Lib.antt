pub mod FusedWorker
pub mod FusedAdd
pub mod FusedFinish
