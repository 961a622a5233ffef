-- A shelf and a sink in memory, and what their calls do.
use Rattle.std.specs.Prelude.{◌≡◌, ◌≢◌, ℕ, ◌+◌, ◌<◌, ◌≤◌, Bool, true, false, ◌==◌, List, ◌++◌, length, take, Some, None, IsSomeAnd, refl}
use Rattle.std.specs.List.{list_any}
use Rattle.std.specs.Coded.{Coded, code_by, coded×, coded_ℕ, coded_list}
use Rattle.std.specs.FinMap.{code, get, insert}
use Rattle.std.specs.Ordering.{nat_cmp}
use Rattle.std.specs.Cmp.Lexicographic.{slice_cmp}
use Rattle.b2_base.specs.Counts.{counted, next_call}
use Rattle.b2_base.specs.Files.{Files}
use Rattle.b2_base.specs.declared.outside.Fetch.{Fetch}
use Rattle.b2_base.specs.declared.outside.Fetch.TheVariants as fetch
use Rattle.b2_base.specs.declared.outside.Keep.{Keep}
use Rattle.b2_base.specs.declared.outside.Keep.TheVariants as keep

-- the files, the numbers of the calls that fail, how many calls there were, and the three counts
pub record MemShelfState : Type 0 where
  pub files : Files
  pub failing : List ℕ
  pub calls : ℕ
  pub faults : ℕ
  pub misses : ℕ
  pub longs : ℕ

abbrev pub shelf_code : Coded MemShelfState
shelf_code =
    code_by (Files × (List ℕ × (ℕ × (ℕ × (ℕ × ℕ)))))
    (coded× (code {R = slice_cmp nat_cmp} (coded_list coded_ℕ) (coded_list coded_ℕ)) (coded× (coded_list coded_ℕ) (coded× coded_ℕ (coded× coded_ℕ (coded× coded_ℕ coded_ℕ)))))
    (λ s. (s.files, (s.failing, (s.calls, (s.faults, (s.misses, s.longs))))))
    (λ p. record { files = p.0; failing = p.1.0; calls = p.1.1.0; faults = p.1.1.1.0; misses = p.1.1.1.1.0; longs = p.1.1.1.1.1 })
    (λ _. refl)

-- whether a call is one of those that fail
abbrev pub is_listed : ℕ → List ℕ → Bool
is_listed call failing = list_any (λ n. n == call) failing

-- whether the next call fails
abbrev pub fails_next : MemShelfState → Bool
fails_next s = is_listed (next_call s.calls) s.failing

-- a fetch of a name within a limit, by its answer
abbrev pub MemFetches : List ℕ → ℕ → MemShelfState → MemShelfState → List ℕ → Fetch → Type 0
MemFetches name limit old new into fetch.Done =
    (fails_next old ≡ false) × (get old.files name ≡ Some into) × (length into ≤ limit) × (new ≡ record old { calls = next_call old.calls })
MemFetches name limit old new into fetch.Missing =
    (fails_next old ≡ false) × (get old.files name ≡ None) × (new ≡ record old { calls = next_call old.calls; misses = counted old.misses })
MemFetches name limit old new into fetch.Failed =
    (fails_next old ≡ true) × (new ≡ record old { calls = next_call old.calls; faults = counted old.faults })
MemFetches name limit old new into fetch.TooLong =
    (fails_next old ≡ false) × IsSomeAnd (get old.files name) (λ file. (limit < length file) × (into ≡ take (limit + 1) file))
    × (new ≡ record old { calls = next_call old.calls; longs = counted old.longs })
MemFetches name limit old new into fetch.NoMemory =
    (fails_next old ≡ false) × (get old.files name ≢ None) × (new ≡ record old { calls = next_call old.calls })

-- a keep of bytes under a name, by its answer
abbrev pub MemKeeps : List ℕ → List ℕ → MemShelfState → MemShelfState → Keep → Type 0
MemKeeps name bytes old new keep.Done =
    (fails_next old ≡ false) × (new ≡ record old { calls = next_call old.calls; files = insert old.files name bytes })
MemKeeps name bytes old new keep.Failed =
    (fails_next old ≡ true) × (new ≡ record old { calls = next_call old.calls; faults = counted old.faults })
MemKeeps name bytes old new keep.NoMemory =
    (fails_next old ≡ false) × (new ≡ record old { calls = next_call old.calls })

-- what was written, the numbers of the calls that fail, how many calls there were, and the count
pub record MemSinkState : Type 0 where
  pub written : List ℕ
  pub failing : List ℕ
  pub calls : ℕ
  pub faults : ℕ

-- a put of bytes, by its answer
abbrev pub MemPuts : List ℕ → MemSinkState → MemSinkState → Keep → Type 0
MemPuts bytes old new keep.Done =
    (is_listed (next_call old.calls) old.failing ≡ false) × (new ≡ record old { calls = next_call old.calls; written = old.written ++ bytes })
MemPuts bytes old new keep.Failed =
    (is_listed (next_call old.calls) old.failing ≡ true) × (new ≡ record old { calls = next_call old.calls; faults = counted old.faults })
MemPuts bytes old new keep.NoMemory =
    (is_listed (next_call old.calls) old.failing ≡ false) × (new ≡ record old { calls = next_call old.calls })
