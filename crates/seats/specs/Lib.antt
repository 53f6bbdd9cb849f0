pub mod Taking
pub mod Best
pub mod Rows
pub mod Ready
pub mod Lineups
pub mod Seats
pub mod SeatLaws
