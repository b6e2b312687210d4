pub mod AreaMemory
pub mod AreaVariables
pub mod Lists
pub mod ListsAmong
pub mod Known
pub mod Rows
