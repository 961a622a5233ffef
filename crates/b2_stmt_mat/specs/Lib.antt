pub mod Arrays
pub mod Formulas
pub mod Matrices
pub mod Redimensioning
pub mod ByteArrays
pub mod Searching
pub mod Plan
pub mod Laws
