pub mod DeepBlocks
pub mod DeepBegins
pub mod BegunVariables
pub mod FullBegins
pub mod InnerBlocks
