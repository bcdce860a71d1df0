pub mod Disk
pub mod Record
pub mod RecordLaws
pub mod Pending
pub mod MemDisk
