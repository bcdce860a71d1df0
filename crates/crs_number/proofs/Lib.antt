pub mod Cuts
pub mod Powers
pub mod Normal
pub mod Values
pub mod Compare
pub mod Texts
pub mod Spelled
pub mod Same
pub mod Small
pub mod Once
pub mod Forms
pub mod CountTexts
pub mod CountValues
pub mod CountLemmas
mod Few
