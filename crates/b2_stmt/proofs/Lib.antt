-- The proofs of statements of control, by what they are about.
--
-- GoalUnits: the units that goals name. Framed: frames that are put. BranchRows, LoopRows, CallRows, CourseRows, ChoiceRows,
-- ClearRows, ArgumentRows, MarkRows, PartRows and BreakRows have what the rows of statements say at their bytes, one fact at a time. Executed: a
-- unit by its row and its tree. Erased: what CLEAR P asks for. EachPlan: what is planned and how it ends, case by case. HomesKept: which partitions a statement names as homes.
-- KeptPlaces: where it stands, at which terminal, and what it keeps for CONTINUE. Waits: what has to wait.
-- Reached: what becomes of the `@` variables. PartsCame: what came of a name. LeftAlone: all of
-- these in one record. AskedSo: why an access is asked for. Standing: how many calls entered each text, and where it stands in
-- those of others, as it plans and as it finishes; and that it enters only those of others. Crates above cite its `plans_standing`,
-- `finishes_standing` and `enters_others`.
-- Of what is done fast: Led: where it leads. Tops: the frame on top. Counters: the variable of a loop. Steered: what RETURN and FOR
-- change. MarksPassed: GOSUB' and DEFFN'. Passed: what is planned, row by row.
pub mod GoalUnits
pub mod Framed
pub mod BranchRows
pub mod LoopRows
pub mod CallRows
pub mod RunControlRows
pub mod ChoiceRows
pub mod ClearRows
pub mod ArgumentRows
pub mod MarkRows
pub mod PartRows
pub mod BreakRows
pub mod PartsCame
pub mod Executed
pub mod Erased
pub mod EachPlan
pub mod AskedSo
pub mod Standing
pub mod HomesKept
pub mod KeptPlaces
pub mod Waits
pub mod Reached
pub mod LeftAlone
pub mod Led
pub mod Tops
pub mod FastRows
pub mod Steered
pub mod FastCalls
pub mod Counters
