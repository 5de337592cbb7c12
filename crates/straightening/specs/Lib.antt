pub mod Reflex
