-- What a partition wrote itself isn't foul to it, so it may touch before or after.
use Rattle.std.specs.Prelude.{◌≡◌, ℕ, Bool, true, false, List, [], ◌∷◌, ◌++◌, refl, if◌then◌else◌}
use Rattle.std.proofs.Common.{sym, ap, subst, ◌∙◌, inl, inr}
use Rattle.b2_access.specs.declared.objects.Object.{Object}
use Rattle.b2_access.specs.Objects.{same_object}
use Rattle.b2_audit.specs.PartSets.{without_part, has_other}
use Rattle.b2_audit.specs.Marks.{Marks, touch, write, touch_all, write_all}
use Rattle.b2_audit.specs.Steps.{IsPartition, IsMarked, AreMarked, MarkedInParts}
use Rattle.b2_audit.proofs.Places.{own_write, writes_elsewhere}
use Rattle.b2_audit.proofs.Fouling.{is_foul}
use Rattle.b2_audit.proofs.InParts.{touched_in_turn}

foul_own : (who : ℕ) (o w : Object) (m : Marks) → IsPartition who → IsMarked o → IsMarked w → is_foul who o (write who w m) ≡ is_foul who o m
foul_own who o w m is is_o is_w = elim (same_object o w) [
  | inl e ↦
      let P : Object → Type 0 = λ x. is_foul who x (write who w m) ≡ is_foul who x m in
      let at_w : P w = own_write who w m is is_w in
      subst P (sym e) at_w
  | inr apart ↦ ap (λ (n : ℕ). has_other n who) (writes_elsewhere who w o m is_w is_o apart)
]

one_each : (who : ℕ) (o w : Object) (m : Marks) → IsPartition who → IsMarked o → IsMarked w → touch who o (write who w m) ≡ write who w (touch who o m)
one_each who o w m is is_o is_w =
    ap (λ (b : Bool). if b then record (write who w m) { clean = without_part m.clean who } else write who w m) (foul_own who o w m is is_o is_w) ∙ by (is_foul who o m)
  where
    by : (b : Bool) → (if b then record (write who w m) { clean = without_part m.clean who } else write who w m) ≡ write who w (if b then record m { clean = without_part m.clean who } else m)
    by true = refl
    by false = refl

all_touched : (who : ℕ) (os : List Object) (w : Object) (m : Marks) → IsPartition who → AreMarked os → IsMarked w → touch_all who os (write who w m) ≡ write who w (touch_all who os m)
all_touched who [] w m is are is_w = refl
all_touched who (o ∷ os) w m is are is_w =
    ap (touch_all who os) (one_each who o w m is (are o (inl refl)) is_w) ∙ all_touched who os w (touch who o m) is (λ x i. are x (inr i)) is_w

own_writes_are_idle : (who : ℕ) (os ws : List Object) (m : Marks) → IsPartition who → AreMarked os → AreMarked ws → touch_all who os (write_all who ws m) ≡ write_all who ws (touch_all who os m)
own_writes_are_idle who os [] m is are_os are_ws = refl
own_writes_are_idle who os (w ∷ ws) m is are_os are_ws =
    own_writes_are_idle who os ws (write who w m) is are_os (λ x i. are_ws x (inr i)) ∙ ap (write_all who ws) (all_touched who os w m is are_os (are_ws w (inl refl)))

pub marked_in_parts : MarkedInParts
marked_in_parts who first touched later written m is are_later are_written =
    let start = touch_all who first m in
    own_writes_are_idle who later written (touch_all who touched start) is are_later are_written
    ∙ ap (write_all who written) (sym (touched_in_turn who (first ++ touched) later m ∙ ap (touch_all who later) (touched_in_turn who first touched m)))
