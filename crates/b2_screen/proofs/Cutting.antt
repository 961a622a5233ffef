-- However a list of bytes is cut, it is read into the same items: an unfinished sequence goes on in what follows.
use Rattle.std.proofs.Common.{◌≡◌, ◌<◌, ◌+◌, suc, length, drop, get_or, ℕ, List, [], ◌∷◌, ◌++◌, Bool, true, false, ◌==◌, if◌then◌else◌, refl, sym, ap, ◌∙◌}
use Rattle.std.proofs.Math.Seq.{drop-cons}
use Rattle.std.proofs.lemmas.List.{append_assoc}
use Rattle.b2_screen.specs.Sheet.{SheetState}
use Rattle.b2_base.specs.Byte as byte
use Rattle.b2_screen.specs.Shown.{ScreenItem, nothing, BytesRead, ScreenState, is_kind, byte_item, item_of_kind, after_item, bytes_read, read_after_escape, read_of_kind, effect, effects, fed, read_onto, screen_after, blank_screen, sequence_bytes}
use Rattle.b2_screen.proofs.Places.{one_more}
use Rattle.b2_screen.specs.declared.sequence.SequenceKind.TheVariants as kind
use Rattle.b2_screen.specs.declared.sequence.Sequence.{Sequence}
use Rattle.b2_screen.specs.declared.sequence.Sequence.TheVariants as sequence

-- a reading that goes on with further bytes
pub read_on : BytesRead → List ℕ → BytesRead
read_on r bytes = record { items = r.items ++ (bytes_read (r.rest ++ bytes)).items; rest = (bytes_read (r.rest ++ bytes)).rest }

-- by the first byte, and by the second byte of a sequence
by_escape : (test : Bool) (b : ℕ) (xs ys : List ℕ)
    → read_on (read_after_escape xs) ys ≡ read_after_escape (xs ++ ys)
    → read_on (bytes_read xs) ys ≡ bytes_read (xs ++ ys)
    → read_on (if test then read_after_escape xs else after_item (byte_item b) (bytes_read xs)) ys
    ≡ (if test then read_after_escape (xs ++ ys) else after_item (byte_item b) (bytes_read (xs ++ ys)))
unfolding read_on
by_escape true b xs ys h k = h
by_escape false b xs ys h k = ap (after_item (byte_item b)) k

by_kind : (test : Bool) (k : ℕ) (xs ys : List ℕ) → is_kind k ≡ test
    → (is_kind k ≡ true → read_on (read_of_kind k xs) ys ≡ read_of_kind k (xs ++ ys))
    → read_on (bytes_read xs) ys ≡ bytes_read (xs ++ ys)
    → read_on (if test then read_of_kind k xs else after_item nothing (bytes_read xs)) ys
    ≡ (if test then read_of_kind k (xs ++ ys) else after_item nothing (bytes_read (xs ++ ys)))
unfolding read_on
by_kind true k xs ys e h l = h e
by_kind false k xs ys e h l = ap (after_item nothing) l

-- over all lists, with what follows the first and the second byte
mutual
  unfolding bytes_read read_after_escape read_of_kind read_on

  pub cut_read : (xs ys : List ℕ) → read_on (bytes_read xs) ys ≡ bytes_read (xs ++ ys)
  cut_read [] ys = refl
  cut_read (b ∷ xs) ys = by_escape (b == byte.escape) b xs ys (after_escape_cut xs ys) (cut_read xs ys)

  after_escape_cut : (xs ys : List ℕ) → read_on (read_after_escape xs) ys ≡ read_after_escape (xs ++ ys)
  after_escape_cut [] ys = refl
  after_escape_cut (k ∷ xs) ys = by_kind (is_kind k) k xs ys refl (of_kind_cut k xs ys) (cut_read xs ys)

  of_kind_cut : (k : ℕ) (xs ys : List ℕ) → is_kind k ≡ true → read_on (read_of_kind k xs) ys ≡ read_of_kind k (xs ++ ys)
  of_kind_cut k [] ys e = ap (λ (test : Bool). if test then read_of_kind k ys else after_item nothing (bytes_read ys)) e
  of_kind_cut k (a ∷ []) ys e = ap (λ (test : Bool). if test then read_of_kind k (a ∷ ys) else after_item nothing (bytes_read (a ∷ ys))) e
  of_kind_cut k (a ∷ b ∷ xs) ys e = ap (after_item (item_of_kind k a b)) (cut_read xs ys)

effects_append : (is js : List ScreenItem) (s : SheetState) → effects (is ++ js) s ≡ effects js (effects is s)
unfolding effects
effects_append [] js s = refl
effects_append (i ∷ is) js s = effects_append is js (effect i s)

-- bytes that are fed one part after the other leave what they leave together
pub fed_cut : (xs ys : List ℕ) (s : ScreenState) → fed ys (fed xs s) ≡ fed (xs ++ ys) s
unfolding bytes_read read_on
fed_cut xs ys s =
    let r = bytes_read (s.rest ++ xs) in
    sym (ap (λ (sheet : SheetState). record { sheet = sheet; rest = (bytes_read (r.rest ++ ys)).rest }) (effects_append r.items (bytes_read (r.rest ++ ys)).items s.sheet))
    ∙ ap (λ (r : BytesRead). read_onto r s.sheet) (cut_read (s.rest ++ xs) ys ∙ ap bytes_read (append_assoc s.rest xs ys))

-- one byte, and then those after it
pub fed_byte : (bs : List ℕ) (i d : ℕ) (s : ScreenState) → i < length bs → fed (drop (i + 1) bs) (fed (get_or bs i d ∷ []) s) ≡ fed (drop i bs) s
fed_byte bs i d s h =
    ap (λ (next : ℕ). fed (drop next bs) (fed (get_or bs i d ∷ []) s)) (one_more i)
    ∙ fed_cut (get_or bs i d ∷ []) (drop (suc i) bs) s
    ∙ ap (λ (rest : List ℕ). fed rest s) (sym (drop-cons bs i d h))

-- no bytes leave a screen as it is
pub fed_nothing : (sheet : SheetState) (q : Sequence) → fed [] (record { sheet = sheet; rest = sequence_bytes q }) ≡ record { sheet = sheet; rest = sequence_bytes q }
unfolding bytes_read read_after_escape read_of_kind effects
fed_nothing sheet sequence.NotBegun = refl
fed_nothing sheet sequence.Begun = refl
fed_nothing sheet (sequence.OfKind kind.Placing) = refl
fed_nothing sheet (sequence.OfKind kind.Outline) = refl
fed_nothing sheet (sequence.WithFirst kind.Placing a) = refl
fed_nothing sheet (sequence.WithFirst kind.Outline a) = refl

-- the law of cuts, for the bytes before and those of a call
pub shown_on : (before bytes : List ℕ) (old new : ScreenState) → new ≡ fed bytes old → old ≡ screen_after before → new ≡ screen_after (before ++ bytes)
shown_on before bytes old new h k = h ∙ ap (fed bytes) k ∙ fed_cut before bytes blank_screen
