-- Names that are declared and given up: what is looked at is as it was, and what is put is what is held.
use Rattle.std.specs.Prelude.{◌≡◌, ℕ, Bool, true, false, List, Option, Some, None, if◌then◌else◌, refl}
use Rattle.std.proofs.Common.{sym, ap, ◌∙◌, inr}
use Rattle.b2_base.specs.declared.codes.TheConstants.{X78_NAME_HELD}
use Rattle.b2_access.specs.declared.accesses.Access.TheVariants as access
use Rattle.b2_access.specs.declared.accesses.Answer.TheVariants as answer
use Rattle.b2_access.specs.AccessRows.{DeclareTask, holds_name, is_held_by, is_held_by_other, row, takes_name}
use Rattle.b2_access.specs.Rows.{NameRows, device_row, holder_in, with_device_row, with_or_added}
use Rattle.b2_access.specs.Serving.{performs}
use Rattle.b2_access.specs.Sharing.{Gives}
use Rattle.b2_access.specs.declared.objects.Object.TheVariants as object
use Rattle.b2_access.specs.Store.{StoreState, content}
use Rattle.b2_access.specs.Task.{Refuse}
use Rattle.b2_access.proofs.Holders.{given_up, gives_up_first, performs_on, performs_same}
use Rattle.b2_store.specs.DiskWork.{disks}
use Rattle.b2_store.specs.Names.{freed_in, named}
use Rattle.b2_store.proofs.GivenRows.{name_by_rows, without_name}

abbrev done : StoreState → Gives StoreState
done s = record { after = s; answer = answer.Done }

abbrev pub with_names : NameRows → StoreState → StoreState
with_names rows s = record s { names = rows }

-- a name is given up in its rows
pub names_left : (who : ℕ) (name : Option (List ℕ)) (s : StoreState) → given_up who name s s ≡ with_names (without_name who name s.names) s
names_left who None s = refl
names_left who (Some name) s = by_row (device_row name s.names)
  where
    by : (own : Bool) → (if own then with_names (with_device_row name s.names None) s else s) ≡ with_names (if own then with_device_row name s.names None else s.names) s
    by true = refl
    by false = refl

    by_row : (row : Option (Option ℕ))
        → (if is_held_by who (Some (holder_in row)) then with_names (with_or_added row name s.names None) s else s)
        ≡ with_names (if is_held_by who (Some (holder_in row)) then freed_in row name s.names else s.names) s
    by_row None = refl
    by_row (Some holder) = by (is_held_by who (Some holder))

module _ (who : ℕ) (s : StoreState) where
  -- a name that is declared
  taken : (name : List ℕ) (old : Option (List ℕ)) → performs (takes_name who name old) s ≡ done (named who name old s)
  taken name old =
      performs_same (takes_name who name old) s
      ∙ gives_up_first who old (λ o i. inr i) (λ o i. inr i) (holds_name who name old) s s (refl, refl)
      ∙ ap (performs_on (holds_name who name old) s) (names_left who old s ∙ sym (name_by_rows who old s))

  abbrev by_holder : (name : List ℕ) (old : Option (List ℕ)) → Bool → DeclareTask name old
  by_holder name old other = if other then Refuse X78_NAME_HELD else takes_name who name old

  pub declared : (name : List ℕ) (old : Option (List ℕ)) → is_held_by_other who (content s (object.Name name)) ≡ false
      → done (named who name old s) ≡ performs ((row (access.Declare name old)).does disks who None) s
  declared name old free = sym (taken name old) ∙ ap (λ b. performs (by_holder name old b) s) (sym free)

  pub declared_by_another : (name : List ℕ) (old : Option (List ℕ)) → is_held_by_other who (content s (object.Name name)) ≡ true
      → ◌≡◌ {A = Gives StoreState} (record { after = s; answer = answer.Refused X78_NAME_HELD }) (performs ((row (access.Declare name old)).does disks who None) s)
  declared_by_another name old other = ap (λ b. performs (by_holder name old b) s) (sym other)
