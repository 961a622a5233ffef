-- LastUnits: after the last unit that a byte counts there is none. Lines: a line of the program is the same, whatever the immediate
-- line is.
mod LastUnits
pub mod Lines
