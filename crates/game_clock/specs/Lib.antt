pub mod ClockEvents
pub mod Banks
pub mod Clocks
