-- What rows end as, of which a content was lent.
use Rattle.std.specs.Prelude.{Bool, List, Option}
use Rattle.std.specs.Map.{set_value}
use Rattle.std.specs.Borrow.{LendsIf, MutBor, Fml, RattleType}
use Rattle.b2_store.specs.contracts.rows.Rows.{the_row}

-- that of the first row whose key passes a test, where one does
abbrev pub LendsRow : (K X : RattleType) → MutBor (List (K.Denot × X.Denot)) → (K.Denot → Bool) → Option (MutBor X.Denot) → Fml
LendsRow K X rows test x = LendsIf (the_row K X) X rows x (set_value test rows.now) rows.now
