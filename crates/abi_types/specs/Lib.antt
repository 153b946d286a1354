pub mod GuestAt
