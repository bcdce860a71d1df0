pub mod Disk
pub mod System
pub mod Trail
pub mod Maker
pub mod Noted
pub mod Entries
pub mod Files
pub mod Quiet
