pub mod Said
pub mod Turn
pub mod Meridian
pub mod Away
pub mod ZoneName
pub mod Zone
