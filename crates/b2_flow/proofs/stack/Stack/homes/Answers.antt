use Rattle.std.proofs.Common.{sym}
use Rattle.std.proofs.lemmas.List.Sorted.{list_any-IsPermutation, IsPermutation-reverse}
use Rattle.b2_flow.specs.Frames.{enters}
use Rattle.b2_flow.proofs.stack.Stack.homes.Goals as goal

pub returns : goal.returns
returns c = record { marks = λ h low. rw (sym c.self.view_is) (rw (sym (list_any-IsPermutation (enters h) _ _ (IsPermutation-reverse c.self.inside.frames.items))) (rw (sym c.deref.ensures.value) (c.homes.ensures h low))) }
