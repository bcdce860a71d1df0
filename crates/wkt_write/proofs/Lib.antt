pub mod Layouts
mod Marks
pub mod Placing
pub mod Reading
pub mod Tokens
pub mod Utf8
mod Writes
pub mod TokenUtf8
pub mod Fields
pub mod Moving
pub mod Keeping
pub mod Following
pub mod Cutting
pub mod Rebuilding
mod Classes
