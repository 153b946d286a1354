pub mod Answered
pub mod Bodies
pub mod Coded
pub mod Heads
pub mod Quiet
pub mod Totals
