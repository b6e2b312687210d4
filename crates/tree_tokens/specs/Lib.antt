pub mod TreeTokens
