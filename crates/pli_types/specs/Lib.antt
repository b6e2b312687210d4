pub mod Templates
pub mod View
