-- The items of a store as it starts mean that store.
use Rattle.std.specs.Prelude.{◌≡◌, ℕ, List, []}
use Rattle.std.proofs.Common.{ap, sym, ◌∙◌}
use Rattle.b2_text.specs.Program.{TextState}
use Rattle.b2_term.specs.Terminal.{TerminalState}
use Rattle.b2_access.specs.Rows.{NameRows}
use Rattle.b2_access.specs.Store.{StoreState}
use Rattle.b2_store.specs.Kept.{store_in}
use Rattle.b2_store.specs.KeptLaws.{filled, items_of}
use Rattle.b2_store.specs.Spares.{GlobalsRows}
use Rattle.b2_store.specs.declared.kept_item.Kept.{Kept}

pub filled_as : (v w : StoreState) (xs : List Kept) → xs ≡ items_of v → v.names ≡ [] → v ≡ w → store_in v.globals xs ≡ w
filled_as v w xs is none same =
    ap (store_in v.globals) is ∙ ap (λ (x : StoreState). record x { globals = v.globals }) (filled v) ∙ ap (λ (n : NameRows). record v { names = n }) (sym none) ∙ same

-- two stores without names are the same by their rows
pub same_rows : (v w : StoreState) → v.texts ≡ w.texts → v.borrows ≡ w.borrows → v.globals ≡ w.globals → v.terminals ≡ w.terminals → v.printers ≡ w.printers → v.platters ≡ w.platters → v.hogs ≡ w.hogs → v.names ≡ w.names → v ≡ w
same_rows v w t b g e p d h n =
    ap (λ (x : List (ℕ × TextState)). record v { texts = x }) t
    ∙ ap (λ (x : List (ℕ × List ℕ)). record v { texts = w.texts; borrows = x }) b
    ∙ ap (λ (x : GlobalsRows). record v { texts = w.texts; borrows = w.borrows; globals = x }) g
    ∙ ap (λ (x : List (ℕ × TerminalState)). record v { texts = w.texts; borrows = w.borrows; globals = w.globals; terminals = x }) e
    ∙ ap (λ (x : List (List ℕ × List ℕ)). record w { printers = x; platters = v.platters; hogs = v.hogs; names = v.names }) p
    ∙ ap (λ (x : List (List ℕ × List ℕ)). record w { platters = x; hogs = v.hogs; names = v.names }) d
    ∙ ap (λ (x : NameRows). record w { hogs = x; names = v.names }) h
    ∙ ap (λ (x : NameRows). record w { names = x }) n
