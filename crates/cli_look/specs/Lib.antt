pub mod LeftKeys
