pub mod Marks
pub mod Joins
pub mod Holding
pub mod Sorting
pub mod Offers
pub mod Deliveries
