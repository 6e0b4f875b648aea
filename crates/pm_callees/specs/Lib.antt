pub mod Callees
pub mod Chains
pub mod Ends
pub mod Joining
pub mod Numbers
pub mod Search
pub mod Sets
pub mod Tally
