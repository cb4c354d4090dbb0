pub mod AheadLaws
