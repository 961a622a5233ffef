-- Serving is local, keeps what is listed, and answers by its rows.
use Rattle.std.specs.Prelude.{◌≡◌, ℕ, Bool, true, false, List, [], Option, refl, if◌then◌else◌}
use Rattle.std.proofs.Common.{ap, subst, sym}
use Rattle.b2_access.specs.declared.objects.Object.{Object}
use Rattle.b2_access.specs.declared.accesses.Access.{Access}
use Rattle.b2_access.specs.declared.accesses.Answer.{Answer}
use Rattle.b2_access.specs.AccessRows.{holder_at, reach, row}
use Rattle.b2_access.specs.AnswerKinds.{stops}
use Rattle.b2_access.specs.Answering.{AnswersByRow}
use Rattle.b2_access.specs.Disks.{DiskWork}
use Rattle.b2_access.specs.Reach.{objects_reached}
use Rattle.b2_access.specs.Serving.{StopsUnchanged, itself, serves}
use Rattle.b2_access.specs.Sharing.{IsLocal, KeepsListed, ServesAlike}
use Rattle.b2_access.specs.Store.{StoreState, AgreeOn, IsIn, content}
use Rattle.b2_access.specs.Touching.{entered_in, touched, written_by}
use Rattle.b2_access.proofs.RowLaws.{answered, keeps, leaves, same_holder, served_alike, stops_unchanged, wrote}
use Rattle.b2_access.proofs.RowAnswers.{rows_tell_their_answers, rows_write_as_told, written_is_reached}

pub stopped_unchanged : StopsUnchanged
stopped_unchanged disks who a s = stops_unchanged (row a) disks who (rows_tell_their_answers disks a who) s

-- what an access wrote, by its answer, is what its row writes
module _ (disks : DiskWork) (who : ℕ) (a : Access) (s : StoreState) where
  wrote_by_row : stops (serves disks s who a).answer ≡ false → (row a).writes who (entered_in (serves disks s who a).answer) ≡ (row a).writes who (holder_at a s)
  wrote_by_row goes = wrote (row a) disks who (rows_tell_their_answers disks a who) s (λ holder on. rows_write_as_told disks a who holder s on) goes

  -- and it was touched
  pub written_touched : (o : Object) → IsIn o (written_by (serves disks s who a).answer who a) → IsIn o (touched s who a)
  written_touched o = by (stops (serves disks s who a).answer) refl
    where
      by : (b : Bool) → stops (serves disks s who a).answer ≡ b → IsIn o (if b then [] else (row a).writes who (entered_in (serves disks s who a).answer)) → IsIn o (touched s who a)
      by true is i = absurd i
      by false is i = written_is_reached a who (holder_at a s) o (subst (λ (os : List Object). IsIn o os) (wrote_by_row is) i)

  unwritten_stays : (o : Object) → (IsIn o (written_by (serves disks s who a).answer who a) → ⊥) → content (serves disks s who a).after o ≡ content s o
  unwritten_stays o out = by (stops (serves disks s who a).answer) refl out
    where
      by : (b : Bool) → stops (serves disks s who a).answer ≡ b → (IsIn o (if b then [] else (row a).writes who (entered_in (serves disks s who a).answer)) → ⊥) → content (serves disks s who a).after o ≡ content s o
      by true is out = ap (λ (t : StoreState). content t o) (stopped_unchanged disks who a s is)
      by false is out = leaves (row a) disks who s o (λ i. out (subst (λ (os : List Object). IsIn o os) (sym (wrote_by_row is)) i))

module _ (disks : DiskWork) where
  alike : (who : ℕ) (a : Access) (s t : StoreState) → AgreeOn (touched s who a) s t → ServesAlike itself (serves disks) who a s t
  alike who a s t agree =
      let by = served_alike (row a) disks who s t agree in
      record {
        touches = ap (λ (holder : Option ℕ). objects_reached who holder (reach a)) (same_holder who (holder_at a s) (reach a) s t agree);
        wrote = ap (λ (x : Answer). written_by x who a) by.0;
        answers = by.0;
        contents = λ o i. by.1 o (agree o (written_touched disks who a s o i));
      }

  pub serves_is_local : IsLocal itself (serves disks)
  serves_is_local = record {
    alike = alike;
    others = λ who a s o out. unwritten_stays disks who a s o out;
    within = λ who a s o i. written_touched disks who a s o i;
  }

  pub serves_keeps_listed : KeepsListed itself (serves disks)
  serves_keeps_listed who a s o listed = keeps (row a) disks who s o listed

  pub serves_by_row : AnswersByRow (serves disks)
  serves_by_row s who a = answered (row a) disks who (rows_tell_their_answers disks a who) s
