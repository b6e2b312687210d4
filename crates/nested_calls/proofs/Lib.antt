pub mod NestedVariables
pub mod GivenCode
pub mod NestedCalls
pub mod DeepBeginnings
pub mod DeepCalls
pub mod NestedFunctions
pub mod FullVariables
pub mod FullCalls
