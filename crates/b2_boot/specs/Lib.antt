pub mod Rows
pub mod Boots
pub mod Quotas
pub mod LogLines
pub mod Logs
pub mod Alone
pub mod Drills
pub mod Laws
