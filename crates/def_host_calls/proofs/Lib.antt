pub mod MinutesRead
