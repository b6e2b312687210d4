pub mod InnerWords
pub mod EndUnits
pub mod ProvedSoFar
pub mod Headline
pub mod FirstForms
pub mod FirstPathTrees
pub mod FirstPath
