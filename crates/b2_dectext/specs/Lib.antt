pub mod Digits
pub mod Printed
pub mod NumberText
pub mod Grammar
pub mod FieldParts
