pub mod GrowCode
pub mod GrowRows
pub mod BendCode
pub mod BendRows
