-- The texts that a store has.
use Rattle.std.specs.Prelude.{ℕ, IsSome}
use Rattle.b2_access.specs.Store.{StoreState, content}
use Rattle.b2_access.specs.declared.objects.Object.TheVariants as object

-- partitions 1 and 2 have texts
abbrev pub HasTexts : StoreState → Type 0
HasTexts s = IsSome (content s (object.Text 1)) × IsSome (content s (object.Text 2))

-- whoever has a text in a store has one in another
abbrev pub KeepsTexts : StoreState → StoreState → Type 0
KeepsTexts s t = (p : ℕ) → IsSome (content s (object.Text p)) → IsSome (content t (object.Text p))
