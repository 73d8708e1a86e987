pub mod Numbers
pub mod Causes
pub mod Record
pub mod Steps
pub mod Again
pub mod Book
pub mod Demand
pub mod ExchangeTold
