pub mod Quoted
pub mod Decimal
pub mod DayRows
pub mod DayCases
pub mod DayTold
pub mod DayAnswers
pub mod Wrong
