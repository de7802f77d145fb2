pub mod Ends
pub mod Serves
pub mod Fetches
pub mod Tries
