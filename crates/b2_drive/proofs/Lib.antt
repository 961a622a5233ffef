-- What the rows of drives and of SELECT DISK say at their bytes. Asked has what holds of what statements on disks ask for: which
-- accesses fit, and what is asked for after a drive, after a value and after a name.
pub mod DriveRows
pub mod Asked
