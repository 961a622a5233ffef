-- The proofs of statements on variables, by what they are about.
--
-- NumberRows, SideRows, DataRows, ReadRows and RestoreRows have what the rows of statements say at their bytes, one fact at a
-- time. Assigned: receivers one after the other. BufferRows, TurnRows, LoneRows and EntryRows: the rows of INIT, of ROTATE, and
-- of DIM and COM. LengthRows: a length is read as a sum is.
-- ReadingOrder: READ takes the literals of DATA in their order. Reached: the `@` variables that a statement changes; LeftAlone: what
-- every statement leaves. PlainAssignment: an assignment of a number to one scalar, by its bytes; OneReceiver: an
-- assignment of either kind to one receiver; PassedOn: what one leaves and where it leads, done fast.
pub mod NumberRows
pub mod SideRows
pub mod Assigned
pub mod BufferRows
pub mod TurnRows
pub mod LengthRows
pub mod LoneRows
pub mod EntryRows
pub mod DataRows
pub mod ReadRows
pub mod RestoreRows
pub mod ReadingOrder
pub mod Reached
pub mod LeftAlone
pub mod PlainAssignment
pub mod OneReceiver
pub mod FastLed
