-- What each access does to those who stand inside a text: how often the partition that asks is among them after it. The frames of that
-- partition follow the same count.
use Rattle.std.specs.Prelude.{◌≡◌, ◌≢◌, ◌≤◌, ◌+◌, ◌-◌, ◌==◌, ℕ, List, [], Option, Some, None, IsSome, if◌then◌else◌}
use Rattle.b2_access.specs.declared.objects.Object.TheVariants as object
use Rattle.b2_access.specs.declared.accesses.Access.{Access}
use Rattle.b2_access.specs.declared.accesses.Access.TheVariants as access
use Rattle.b2_access.specs.declared.accesses.Answer.{Answer}
use Rattle.b2_access.specs.declared.accesses.Answer.TheVariants as answer
use Rattle.b2_access.specs.Borrowers.{is_marked, times}
use Rattle.b2_access.specs.Disks.{DiskWork}
use Rattle.b2_access.specs.Serving.{serves}
use Rattle.b2_access.specs.Sharing.{Gives}
use Rattle.b2_access.specs.Store.{StoreState, content}

-- nobody, where a text isn't listed
abbrev pub or_nobody : Option (List ℕ) → List ℕ
or_nobody None = []
or_nobody (Some parts) = parts

-- those who stand inside the text of a partition
abbrev pub inside : StoreState → ℕ → List ℕ
inside s g = or_nobody (content s (object.Borrow g))

-- one that enters is there once more, one that leaves once less, and none of one that gives the text back
abbrev pub entered_after : Access → Answer → ℕ → ℕ → ℕ
entered_after (access.Enter name mark) (answer.Entered h spot) g k = if g == h then k + 1 else k
entered_after (access.Leave home) answer.Done g k = if g == home then k - 1 else k
entered_after (access.Drop homes) answer.Done g k = if is_marked g homes then 0 else k
entered_after (access.PutLine line atoms homes) answer.Done g k = if is_marked g homes then 0 else k
entered_after (access.Erase from to homes) answer.Done g k = if is_marked g homes then 0 else k
entered_after (access.ClearAll name homes) answer.Done g k = if is_marked g homes then 0 else k
entered_after (access.LoadProgram addr name replace declared homes) answer.Done g k = if is_marked g homes then 0 else k
entered_after a x g k = k

-- what was given says so of the text of a partition: of the one that asks, and of all others
pub record EntersAs (s : StoreState) (who : ℕ) (a : Access) (g : ℕ) (x : Gives StoreState) : Type 0 where
  pub own : times who (inside x.after g) ≡ entered_after a x.answer g (times who (inside s g))
  pub others : (q : ℕ) → q ≢ who → times q (inside x.after g) ≡ times q (inside s g)

-- each access, of a text that is listed, of a partition from 1 to 16
abbrev pub AccessesEnterAsSaid : Type 0
AccessesEnterAsSaid = (disks : DiskWork) (who g : ℕ) (a : Access) (s : StoreState) → 1 ≤ g → g ≤ 16 → IsSome (content s (object.Borrow g)) → EntersAs s who a g (serves disks s who a)
