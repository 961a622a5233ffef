-- A place is moved over one record.
use Rattle.std.proofs.Common.{◌≡◌, ℕ, zero, suc, ◌+◌, ◌-◌, ◌<◌, ◌≤◌, true, List, [], ◌∷◌, length, map, get_or, refl, sym, ap, ◌∙◌, subst, arith, inl, inr}
use Rattle.std.specs.List.{range_with_len}
use Rattle.b2_catalog.specs.declared.entry.Entry.{Entry}
use Rattle.b2_dec.specs.declared.values.Value.{Value}
use Rattle.b2_platter.specs.Image.{sector, sectors_at}
use Rattle.b2_record.specs.Records.{is_record, sectors_from, Spells, IsNoRecord}
use Rattle.b2_record.proofs.Unique.{record-length, length-unique}
use Rattle.b2_datafile.specs.Files.{IsEndOfRecords}
use Rattle.b2_datafile.specs.Loading.{IsRecordAt}
use Rattle.b2_datafile.specs.Moving.{Ahead, NoneAhead, Behind, NoneBehind, IsRecordBefore, IsNoRecordBefore}

-- ---- ahead

pub ahead-stop : (image : List ℕ) (e : Entry) (k pos : ℕ) → IsEndOfRecords image e pos → Ahead image e k pos pos
ahead-stop image e zero pos h = refl
ahead-stop image e (suc k) pos h = inl (h, refl)

pub ahead-step : (image : List ℕ) (e : Entry) (m k pos n to : ℕ) (values : List Value) → m ≡ suc k → (IsEndOfRecords image e pos → ⊥) → IsRecordAt image e pos values n → Ahead image e k (pos + n) to → Ahead image e m pos to
ahead-step image e m k pos n to values same h r a = subst (λ (m : ℕ). Ahead image e m pos to) (sym same) (inr (values, n, h, r, a))

pub none-step : (image : List ℕ) (e : Entry) (m k pos n : ℕ) (values : List Value) → m ≡ suc k → (IsEndOfRecords image e pos → ⊥) → IsRecordAt image e pos values n → NoneAhead image e k (pos + n) → NoneAhead image e m pos
none-step image e m k pos n values same h r a = subst (λ (m : ℕ). NoneAhead image e m pos) (sym same) (h, inr (values, n, r, a))

pub none-here : (image : List ℕ) (e : Entry) (m k pos : ℕ) → m ≡ suc k → (IsEndOfRecords image e pos → ⊥) → IsNoRecord image pos (e.end - 1) → NoneAhead image e m pos
none-here image e m k pos same h r = subst (λ (m : ℕ). NoneAhead image e m pos) (sym same) (h, inl r)

-- ---- behind

pub behind-stop : (image : List ℕ) (e : Entry) (k pos : ℕ) → pos ≤ e.start → Behind image e k pos pos
behind-stop image e zero pos h = refl
behind-stop image e (suc k) pos h = inl (h, refl)

pub behind-step : (image : List ℕ) (e : Entry) (m k pos n to : ℕ) (values : List Value) → m ≡ suc k → e.start < pos → IsRecordBefore image e pos values n → Behind image e k (pos - n) to → Behind image e m pos to
behind-step image e m k pos n to values same h r a = subst (λ (m : ℕ). Behind image e m pos to) (sym same) (inr (values, n, h, r, a))

pub none-behind-step : (image : List ℕ) (e : Entry) (m k pos n : ℕ) (values : List Value) → m ≡ suc k → e.start < pos → IsRecordBefore image e pos values n → NoneBehind image e k (pos - n) → NoneBehind image e m pos
none-behind-step image e m k pos n values same h r a = subst (λ (m : ℕ). NoneBehind image e m pos) (sym same) (h, inr (values, n, r, a))

pub none-behind-here : (image : List ℕ) (e : Entry) (m k pos : ℕ) → m ≡ suc k → e.start < pos → IsNoRecordBefore image e pos → NoneBehind image e m pos
none-behind-here image e m k pos same h r = subst (λ (m : ℕ). NoneBehind image e m pos) (sym same) (h, inl r)

-- ---- the number in the last sector of a record is how many it has

last-number : (f : ℕ → List ℕ) (at n number : ℕ) (groups : List (List Value)) → sectors_from number groups ≡ map f (range_with_len at n) → 1 ≤ n → get_or (f (at + (n - 1))) 1 0 ≡ number + (n - 1)
last-number f at zero number groups e h = absurd (omega (arith, h))
last-number f at (suc n) number [] e h = cc
last-number f at (suc zero) number (group ∷ groups) e h =
    let first = ap (λ (ss : List (List ℕ)). get_or (get_or ss 0 []) 1 0) e in
    let here : at ≡ at + (suc zero - 1) = omega arith in
    let same : number ≡ number + (suc zero - 1) = omega arith in
    ap (λ k. get_or (f k) 1 0) (sym here) ∙ (sym first ∙ same)
last-number f at (suc (suc n)) number (group ∷ groups) e h =
    let rest = last-number f (at + 1) (suc n) (number + 1) groups (cc) (omega arith) in
    let here : at + 1 + (suc n - 1) ≡ at + (suc (suc n) - 1) = omega arith in
    let same : number + 1 + (suc n - 1) ≡ number + (suc (suc n) - 1) = omega arith in
    ap (λ k. get_or (f k) 1 0) (sym here) ∙ (rest ∙ same)

pub some-groups : (groups : List (List Value)) → is_record groups ≡ true → 1 ≤ length groups
some-groups [] h = cc
some-groups (group ∷ groups) h = omega arith

pub before-some : (image : List ℕ) (e : Entry) (pos n : ℕ) (values : List Value) → IsRecordBefore image e pos values n → 1 ≤ n
before-some image e pos n values r =
    let len = record-length image (pos - n) n values r.spelled in
    omega (arith, some-groups r.spelled.groups r.spelled.split, len)

pub before-number : (image : List ℕ) (e : Entry) (pos n : ℕ) (values : List Value) → IsRecordBefore image e pos values n → get_or (sector image (pos - 1)) 1 0 ≡ n
before-number image e pos n values r =
    let some = before-some image e pos n values r in
    let here : pos - n + (n - 1) ≡ pos - 1 = omega (arith, some, r.within) in
    let all : 1 + (n - 1) ≡ n = omega (arith, some) in
    ap (λ k. get_or (sector image k) 1 0) (sym here) ∙ (last-number (sector image) (pos - n) n 1 r.spelled.groups r.spelled.same some ∙ all)

-- ---- why there is none

pub no-before : (image : List ℕ) (e : Entry) (pos count : ℕ) → 1 ≤ pos → get_or (sector image (pos - 1)) 1 0 ≡ count → IsNoRecord image (pos - count) (pos - 1) → IsNoRecordBefore image e pos
no-before image e pos count some number none values n r =
    let same : n ≡ count = sym (before-number image e pos n values r) ∙ number in
    none values n (omega (arith, r.within, same, some)) (subst (λ (at : ℕ). Spells values (sectors_at image at n)) (ap (λ (k : ℕ). pos - k) same) r.spelled)

pub no-such : (image : List ℕ) (e : Entry) (pos count found : ℕ) (taken : List Value) → get_or (sector image (pos - 1)) 1 0 ≡ count → Spells taken (sectors_at image (pos - count) found) → (found ≡ count → ⊥)
    → IsNoRecordBefore image e pos
no-such image e pos count found taken number there other values n r =
    let same : n ≡ count = sym (before-number image e pos n values r) ∙ number in
    let here = subst (λ (at : ℕ). Spells values (sectors_at image at n)) (ap (λ (k : ℕ). pos - k) same) r.spelled in
    other (length-unique image (pos - count) found n taken values there here ∙ same)
