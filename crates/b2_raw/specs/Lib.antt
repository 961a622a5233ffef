pub mod Report
pub mod Raw
pub mod Laws
