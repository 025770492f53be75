pub mod Value
pub mod Nodes
pub mod KindValue
pub mod Reading
pub mod Characters
pub mod Inner
