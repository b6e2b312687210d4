pub mod GrowRows
pub mod BendRows
