pub mod Proposal
pub mod Total
pub mod ReadAs
