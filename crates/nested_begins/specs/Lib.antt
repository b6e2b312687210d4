pub mod DeepBegins
pub mod BegunVariables
pub mod InnerBlocks
