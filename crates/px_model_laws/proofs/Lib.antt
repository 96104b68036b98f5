pub mod BaseRows
pub mod Counting
pub mod Cut
pub mod Laws
pub mod RowsAsMap
