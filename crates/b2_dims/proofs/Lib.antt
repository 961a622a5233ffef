-- The proofs of dimensions: what their rows say at their bytes.
pub mod DimensionRows
