pub mod Cuts
pub mod Protocol
pub mod Replacing
pub mod Unread
