-- The theorem for a host with threads.
pub mod Lists
pub mod Stages
pub mod Owned
