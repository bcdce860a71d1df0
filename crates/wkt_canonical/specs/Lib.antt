pub mod Digits
pub mod Ends
pub mod Tests
pub mod Seen
pub mod Reads
