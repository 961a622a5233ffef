-- One reading after another, and what an output holds after it.
use Rattle.std.proofs.Common.{◌≡◌, ℕ, zero, suc, ◌+◌, ◌-◌, ◌<◌, List, [], ◌∷◌, ◌++◌, length, refl, sym, ap, ◌∙◌, arith, Bor, Result, Ok, Err, true, false, Bool, if◌then◌else◌, ◌≤◌, is_ok, append_assoc, append-nil, ◌&&◌, ◌||◌, nat_le}
use Rattle.b2_atom.specs.Words.{Text}
use Rattle.b2_atom.specs.Tokens.{Token, token_atoms, listed, ending, ends_wordy, is_operand, is_apart, maybe_spaced, spelled, is_global_name, is_function_word}
use Rattle.b2_atom.specs.Tree.{Trees, Outcome, Parser, Seen, atoms, also, preceded, and_then, under, emitted, put_one, put_all, bytes_of, holds_bytes, noted, names_global, calls_function, Takes, tokens}
use Rattle.b2_atom.specs.Tree.Trees.{Done, Put, In}
use Rattle.b2_atom.specs.Tree.Seen.{Silent, Noted, Written, Listed}
use Rattle.b2_atom.specs.Lines.{left_after, atoms_of, source_of, uses_of, is_line, line_source}
use Rattle.b2_atom.specs.declared.output.Stop.{Stop}
use Rattle.b2_atom.specs.declared.output.Uses.{Uses}
use Rattle.b2_atom.specs.declared.output.Stop.TheVariants.{At}
use Rattle.b2_atom.specs.declared.words.Origin.{Origin}
use Rattle.b2_atom.specs.declared.words.Origin.TheVariants as origin
use Rattle.b2_atom.specs.declared.forms.Start.{Start}
use Rattle.b2_atom.specs.declared.forms.Position.{Position}
use Rattle.b2_atom.specs.declared.forms.Item.{Item}
use Rattle.b2_atom.specs.declared.forms.Item.TheVariants.{Nest}
use Rattle.b2_atom.proofs.Booleans.{or_false, or_assoc}
use Rattle.b2_atom.specs.Grammar.{Reader, reader, items, item, item_of_part, deep, level, statement, statement_within, many, row_items, starts, absent, part, parse_line, chosen, statement_row}

pub put_all-also : (s : Seen) (a b : Trees) → put_all s (also a b) ≡ put_all (put_all s a) b
put_all-also s Done b = refl
put_all-also s (Put t a) b = put_all-also (put_one s t) a b
put_all-also s (In n i a) b = put_all-also (put_all s i) a b

pub emitted-joined : (old : Seen) (a : Trees) (o : Outcome) → emitted old (preceded a o) ≡ emitted (put_all old a) o
emitted-joined old a (Err e) = refl
emitted-joined old a (Ok p) = ap (λ (s : Seen). Ok (s, p.1)) (put_all-also old a p.0)

pub emitted-under : (n : ℕ) (old : Seen) (o : Outcome) → emitted old (under n o) ≡ emitted old o
emitted-under n old (Err e) = refl
emitted-under n old (Ok p) = refl

pub bind_ok : (old new : Seen) (rest : Text) (o : Outcome) (q : Parser Text) → emitted old o ≡ Ok (new, rest) → emitted new (q rest) ≡ emitted old (and_then o q)
bind_ok old new rest (Err e) q is = cc
bind_ok old new rest (Ok p) q is =
    let pairs : ◌≡◌ {A = Seen × Text} (put_all old p.0, p.1) (new, rest) = cc in
    let front : put_all old p.0 ≡ new = ap (λ (r : Seen × Text). r.0) pairs in
    let same : p.1 ≡ rest = ap (λ (r : Seen × Text). r.1) pairs in
    sym (emitted-joined old p.0 (q p.1) ∙ (λ i. emitted (front i) (q (same i))))

pub bind_err : (old : Seen) (e : Stop) (o : Outcome) (q : Parser Text) → emitted old o ≡ Err e → emitted old (and_then o q) ≡ Err e
bind_err old e (Err f) q is = is
bind_err old e (Ok p) q is = cc

-- an output that holds no bytes holds none after a reading, and every other does
pub put_all-bytes : (s : Seen) (t : Trees) → holds_bytes (put_all s t) ≡ holds_bytes s
put_all-bytes s Done = refl
put_all-bytes Silent (Put t ts) = put_all-bytes Silent ts
put_all-bytes (Noted u) (Put t ts) = put_all-bytes (put_one (Noted u) t) ts
put_all-bytes (Written bs) (Put t ts) = put_all-bytes (put_one (Written bs) t) ts
put_all-bytes (Listed bs w o) (Put t ts) = put_all-bytes (put_one (Listed bs w o) t) ts
put_all-bytes s (In n inner ts) = put_all-bytes (put_all s inner) ts ∙ put_all-bytes s inner

pub emitted-bytes : (old new : Seen) (rest : Text) (o : Outcome) → emitted old o ≡ Ok (new, rest) → holds_bytes new ≡ holds_bytes old
emitted-bytes old new rest (Err e) is = cc
emitted-bytes old new rest (Ok p) is =
    let pairs : ◌≡◌ {A = Seen × Text} (put_all old p.0, p.1) (new, rest) = cc in
    let front : put_all old p.0 ≡ new = ap (λ (r : Seen × Text). r.0) pairs in
    ap holds_bytes (sym front) ∙ put_all-bytes old p.0

-- what a taker answers by a reading, it answers by each that leaves the same
pub takes_same : (old new : Seen) (o p : Outcome) (r : Result (Bor Text) Stop) → emitted old o ≡ emitted old p → Takes old o new r → Takes old p new r
takes_same old new o p (Ok rest) same h = sym same ∙ h
takes_same old new o p (Err e) same h = (λ not. sym same ∙ h.0 not, h.1)

-- the next item of a row
pub next_item : (st : Position → Parser Text) (d p : ℕ → Parser Text) (r : Reader Text) (i : Item) (is : List Item) (old new : Seen) (left rest : Text)
    → emitted old (item st d p r i left) ≡ Ok (new, rest) → emitted new (items st d p r is rest) ≡ emitted old (items st d p r (i ∷ is) left)
unfolding items
next_item st d p r i is old new left rest taken = bind_ok old new rest (item st d p r i left) (items st d p r is) taken

pub no_item : (st : Position → Parser Text) (d p : ℕ → Parser Text) (r : Reader Text) (i : Item) (is : List Item) (old : Seen) (left : Text) (f : Stop)
    → emitted old (item st d p r i left) ≡ Err f → emitted old (items st d p r (i ∷ is) left) ≡ Err f
unfolding items
no_item st d p r i is old left f taken = bind_err old f (item st d p r i left) (items st d p r is) taken

pub row_end : (st : Position → Parser Text) (d p : ℕ → Parser Text) (r : Reader Text) (old : Seen) (left : Text) → emitted old (items st d p r [] left) ≡ Ok (old, left)
unfolding items
row_end st d p r old left = refl

pub row_of_part : (r : Reader Text) (st : Position → Parser Text) (d : ℕ → Parser Text) (l n : ℕ) (old : Seen) (t : Text) → 0 < l
    → emitted old (items st d (level r st d (l - 1)) r (row_items n) t) ≡ emitted old (level r st d l n t)
unfolding level
row_of_part r st d zero n old t h = absurd (omega arith)
row_of_part r st d (suc l) n old t h = let less : suc l - 1 ≡ l = omega arith in ap (λ (m : ℕ). emitted old (items st d (level r st d m) r (row_items n) t)) less

-- what stands in parentheses, where one may still open
pub nest_more : (o : Origin) (fuel room l n : ℕ) (old : Seen) (t : Text) → 0 < room → emitted old (part o fuel (room - 1) 40 n t) ≡ emitted old (item_of_part o fuel room l (Nest n) t)
unfolding item deep
nest_more o fuel zero l n old t h = absurd (omega arith)
nest_more o fuel (suc m) l n old t h =
    let less : suc m - 1 ≡ m = omega arith in ap (λ (k : ℕ). emitted old (part o fuel k 40 n t)) less ∙ sym (emitted-under 2 old (part o fuel m 40 n t))

-- a part once more, where there are n more turns
pub turn : (o : Origin) (s : Start) (p : Parser Text) (n : ℕ) (old : Seen) (left : Text) (b : Bool) → starts o s left ≡ b
    → emitted old (many (reader o) s p (suc n) left) ≡ emitted old (if b then and_then (under 1 (p left)) (many (reader o) s p n) else absent left)
unfolding many
turn o s p n old left b y = ap (λ (a : Bool). emitted old (if a then and_then (under 1 (p left)) (many (reader o) s p n) else absent left)) y

some_left : (n i : ℕ) → i < n → suc (n - (i + 1)) ≡ n - i
some_left n i h = omega arith

pub once_more : (o : Origin) (s : Start) (p : Parser Text) (n i : ℕ) (old new : Seen) (left rest : Text) → i < n → starts o s left ≡ true
    → emitted old (p left) ≡ Ok (new, rest) → emitted new (many (reader o) s p (n - (i + 1)) rest) ≡ emitted old (many (reader o) s p (n - i) left)
once_more o s p n i old new left rest h y taken =
    bind_ok old new rest (under 1 (p left)) (many (reader o) s p (n - (i + 1))) (emitted-under 1 old (p left) ∙ taken)
    ∙ sym (turn o s p (n - (i + 1)) old left true y)
    ∙ ap (λ (m : ℕ). emitted old (many (reader o) s p m left)) (some_left n i h)

pub once_failed : (o : Origin) (s : Start) (p : Parser Text) (n i : ℕ) (old : Seen) (left : Text) (f : Stop) → i < n → starts o s left ≡ true
    → emitted old (p left) ≡ Err f → emitted old (many (reader o) s p (n - i) left) ≡ Err f
once_failed o s p n i old left f h y taken =
    ap (λ (m : ℕ). emitted old (many (reader o) s p m left)) (sym (some_left n i h))
    ∙ turn o s p (n - (i + 1)) old left true y
    ∙ bind_err old f (under 1 (p left)) (many (reader o) s p (n - (i + 1))) (emitted-under 1 old (p left) ∙ taken)

-- no more of it, however many turns are left
pub many_end : (o : Origin) (s : Start) (p : Parser Text) (n : ℕ) (old : Seen) (left : Text) → starts o s left ≡ false
    → emitted old (many (reader o) s p n left) ≡ Ok (old, left)
unfolding many
many_end o s p zero old left y = ap (λ (b : Bool). emitted old (if b then Err (At 14 0) else absent left)) y
many_end o s p (suc n) old left y = turn o s p n old left false y

pub many_out : (o : Origin) (s : Start) (p : Parser Text) (n i : ℕ) (old : Seen) (left : Text) → n ≤ i → starts o s left ≡ true
    → emitted old (many (reader o) s p (n - i) left) ≡ Err (At 14 0)
unfolding many
many_out o s p n i old left h y =
    let none : n - i ≡ 0 = omega arith in
    ap (λ (m : ℕ). emitted old (many (reader o) s p m left)) none
    ∙ ap (λ (b : Bool). emitted old (if b then Err (At 14 0) else absent left)) y

-- a statement by its row
pub statement_more : (o : Origin) (f : ℕ) (p : Position) (old : Seen) (t : Text) → 0 < f
    → emitted old (statement (reader o) f p t) ≡ emitted old (chosen (statement_row o p t) (part o (f - 1) 32 40))
unfolding statement_within
statement_more o zero p old t h = absurd (omega arith)
statement_more o (suc f) p old t h =
    let less : f ≡ suc f - 1 = omega arith in ap (λ (m : ℕ). emitted old (chosen (statement_row o p t) (part o m 32 40))) less

pub statement_ok : (o : Origin) (f : ℕ) (p : Position) (old : Seen) (t here : Text) (n : ℕ) → 0 < f → statement_row o p t ≡ Ok (n, here)
    → emitted old (part o (f - 1) 32 40 n here) ≡ emitted old (statement (reader o) f p t)
statement_ok o f p old t here n h is =
    sym (emitted-under n old (part o (f - 1) 32 40 n here))
    ∙ ap (λ (r : Result (ℕ × Text) Stop). emitted old (chosen r (part o (f - 1) 32 40))) (sym is)
    ∙ sym (statement_more o f p old t h)

pub statement_err : (o : Origin) (f : ℕ) (p : Position) (old : Seen) (t : Text) (e : Stop) → 0 < f → statement_row o p t ≡ Err e
    → emitted old (statement (reader o) f p t) ≡ Err e
statement_err o f p old t e h is =
    statement_more o f p old t h ∙ ap (λ (r : Result (ℕ × Text) Stop). emitted old (chosen r (part o (f - 1) 32 40))) is

-- what is left after a reading, as its output tells
pub rest_ok : (s n : Seen) (o : Outcome) (r : Text) → emitted s o ≡ Ok (n, r) → left_after o ≡ r
rest_ok s n (Err e) r is = cc
rest_ok s n (Ok p) r is =
    let pairs : ◌≡◌ {A = Seen × Text} (put_all s p.0, p.1) (n, r) = cc in ap (λ (x : Seen × Text). x.1) pairs

pub rest_err : (s : Seen) (o : Outcome) (e : Stop) → emitted s o ≡ Err e → left_after o ≡ []
rest_err s (Err f) e is = refl
rest_err s (Ok p) e is = cc

pub reads_ok : (s n : Seen) (o : Outcome) (r : Text) → emitted s o ≡ Ok (n, r) → is_ok o ≡ true
reads_ok s n (Err e) r is = cc
reads_ok s n (Ok p) r is = refl

pub reads_err : (s : Seen) (o : Outcome) (e : Stop) → emitted s o ≡ Err e → is_ok o ≡ false
reads_err s (Err f) e is = refl
reads_err s (Ok p) e is = cc

-- the atoms after bytes
pub put_all-written : (bs : Text) (t : Trees) → put_all (Written bs) t ≡ Written (bs ++ atoms t)
put_all-written bs Done = ap Written (sym (append-nil bs))
put_all-written bs (Put t ts) =
    put_all-written (bs ++ token_atoms t) ts ∙ ap Written (append_assoc bs (token_atoms t) (atoms ts))
put_all-written bs (In n i ts) =
    ap (λ (s : Seen). put_all s ts) (put_all-written bs i) ∙ put_all-written (bs ++ atoms i) ts ∙ ap Written (append_assoc bs (atoms i) (atoms ts))

-- the atoms in an output that held none
pub held : (n : Seen) (rest : Text) (o : Outcome) → emitted (Written []) o ≡ Ok (n, rest) → atoms_of o ≡ Ok (bytes_of n)
held n rest (Err e) is = cc
held n rest (Ok p) is =
    let pairs : ◌≡◌ {A = Seen × Text} (put_all (Written []) p.0, p.1) (n, rest) = cc in
    ap Ok (ap bytes_of (sym (put_all-written [] p.0)) ∙ ap (λ (x : Seen × Text). bytes_of x.0) pairs)

pub held_none : (s : Seen) (o : Outcome) (e : Stop) → emitted s o ≡ Err e → atoms_of o ≡ Err e
held_none s (Err f) e is = let same : f ≡ e = cc in ap Err same
held_none s (Ok p) e is = cc

-- the source after another
pub ending-append : (f : Token → Bool) (before : Bool) (xs ys : List Token) → ending f before (xs ++ ys) ≡ ending f (ending f before xs) ys
ending-append f before [] ys = refl
ending-append f before (x ∷ xs) ys = ending-append f (f x) xs ys

pub listed-append : (w o : Bool) (xs ys : List Token) → listed w o (xs ++ ys) ≡ listed w o xs ++ listed (ending ends_wordy w xs) (ending is_operand o xs) ys
listed-append w o [] ys = refl
listed-append w o (x ∷ xs) ys =
    ap (λ (l : Text). maybe_spaced (is_apart w o x) (spelled x) ++ l) (listed-append (ends_wordy x) (is_operand x) xs ys)
    ∙ sym (append_assoc (maybe_spaced (is_apart w o x) (spelled x)) (listed (ends_wordy x) (is_operand x) xs) _)

pub put_all-listed : (bs : Text) (w o : Bool) (t : Trees)
    → put_all (Listed bs w o) t ≡ Listed (bs ++ listed w o (tokens t)) (ending ends_wordy w (tokens t)) (ending is_operand o (tokens t))
put_all-listed bs w o Done = ap (λ (l : Text). Listed l w o) (sym (append-nil bs))
put_all-listed bs w o (Put t ts) =
    put_all-listed (bs ++ maybe_spaced (is_apart w o t) (spelled t)) (ends_wordy t) (is_operand t) ts
    ∙ ap (λ (l : Text). Listed l (ending ends_wordy (ends_wordy t) (tokens ts)) (ending is_operand (is_operand t) (tokens ts)))
    (append_assoc bs (maybe_spaced (is_apart w o t) (spelled t)) (listed (ends_wordy t) (is_operand t) (tokens ts)))
put_all-listed bs w o (In n i ts) =
    ap (λ (s : Seen). put_all s ts) (put_all-listed bs w o i)
    ∙ put_all-listed (bs ++ listed w o (tokens i)) (ending ends_wordy w (tokens i)) (ending is_operand o (tokens i)) ts
    ∙ (λ j. Listed ((append_assoc bs (listed w o (tokens i)) (listed (ending ends_wordy w (tokens i)) (ending is_operand o (tokens i)) (tokens ts))
    ∙ ap (λ (l : Text). bs ++ l) (sym (listed-append w o (tokens i) (tokens ts)))) j)
    (sym (ending-append ends_wordy w (tokens i) (tokens ts)) j) (sym (ending-append is_operand o (tokens i) (tokens ts)) j))

pub shown : (n : Seen) (rest : Text) (o : Outcome) → emitted (Listed [] false false) o ≡ Ok (n, rest) → source_of o ≡ Ok (bytes_of n)
shown n rest (Err e) is = cc
shown n rest (Ok p) is =
    let pairs : ◌≡◌ {A = Seen × Text} (put_all (Listed [] false false) p.0, p.1) (n, rest) = cc in
    ap Ok (ap bytes_of (sym (put_all-listed [] false false p.0)) ∙ ap (λ (x : Seen × Text). bytes_of x.0) pairs)

pub shown_none : (s : Seen) (o : Outcome) (e : Stop) → emitted s o ≡ Err e → source_of o ≡ Err e
shown_none s (Err f) e is = let same : f ≡ e = cc in ap Err same
shown_none s (Ok p) e is = cc

no_source : (o : Outcome) (b : Bool) (e : Stop) → (b && is_ok o) ≡ true → source_of o ≡ Err e → ⊥
no_source (Err f) true e h k = cc
no_source (Err f) false e h k = cc
no_source (Ok p) b e h k = cc

-- a line has a source
pub line_has_source : (t : Text) (e : Stop) → is_line t ≡ true → line_source t ≡ Err e → ⊥
unfolding is_line line_source
line_has_source t e h k = no_source (parse_line origin.Atoms t) (nat_le (length t) 255) e h k

-- an output that notes what is used
put_all-noted : (u : Uses) (t : Trees) → put_all (Noted u) t ≡ Noted (record { globals = u.globals || names_global t; functions = u.functions || calls_function t })
put_all-noted u Done = λ i. Noted (record { globals = sym (or_false u.globals) i; functions = sym (or_false u.functions) i })
put_all-noted u (Put t ts) =
    put_all-noted (record { globals = u.globals || is_global_name t; functions = u.functions || is_function_word t }) ts
    ∙ (λ i. Noted (record { globals = or_assoc u.globals (is_global_name t) (names_global ts) i; functions = or_assoc u.functions (is_function_word t) (calls_function ts) i }))
put_all-noted u (In n inner ts) =
    ap (λ (s : Seen). put_all s ts) (put_all-noted u inner)
    ∙ put_all-noted (record { globals = u.globals || names_global inner; functions = u.functions || calls_function inner }) ts
    ∙ (λ i. Noted (record { globals = or_assoc u.globals (names_global inner) (names_global ts) i; functions = or_assoc u.functions (calls_function inner) (calls_function ts) i }))

-- an output that noted nothing notes what was read
pub uses_noted : (n : Seen) (rest : Text) (o : Outcome) → emitted (Noted (record { globals = false; functions = false })) o ≡ Ok (n, rest) → noted n ≡ uses_of o
uses_noted n rest (Err e) is = cc
uses_noted n rest (Ok p) is =
    let pairs : ◌≡◌ {A = Seen × Text} (put_all (Noted (record { globals = false; functions = false })) p.0, p.1) (n, rest) = cc in
    sym (ap (λ (x : Seen × Text). noted x.0) pairs) ∙ ap noted (put_all-noted (record { globals = false; functions = false }) p.0)

pub none_noted : (s : Seen) (o : Outcome) (e : Stop) → emitted s o ≡ Err e → uses_of o ≡ record { globals = false; functions = false }
none_noted s (Err f) e is = refl
none_noted s (Ok p) e is = cc
