-- The lines of a program as they are read.
use Rattle.std.proofs.Common.{◌≡◌, ℕ, ◌+◌, ◌*◌, ◌/◌, ◌%◌, ◌<◌, ◌≤◌, true, List, [], ◌∷◌, ◌++◌, length, drop, take, replicate, get_or, nat_cmp, Ordering, Less, Equal, Greater, refl, sym, ap, ap₂, subst, ◌∙◌, arith, append_assoc, append-nil, length-append}
use Rattle.std.specs.List.{list_all}
use Rattle.std.specs.Ordering.{match_ordering}
use Rattle.std.proofs.lemmas.Bool.Decides.{nat_tests}
use Rattle.std.proofs.lemmas.List.{length-replicate, length-take-le, take-append-drop}
use Rattle.std.proofs.Math.Seq.{take-append_seam}
use Rattle.b2_base.specs.Lexical.{first}
use Rattle.b2_atom.specs.Lines.{is_line}
use Rattle.b2_platter.specs.Layout.{is_zero}
use Rattle.b2_platter.proofs.Zeros.{zeros-all, zeros-none}
use Rattle.b2_text.specs.Program.{Lines, with_line}
use Rattle.b2_progfile.specs.Programs.{Ascending, IsProgramText, all_line_bytes, line_bytes, program_bytes}
use Rattle.b2_progfile.specs.Loading.{IsProgramEnd, IsLineAt}

-- the least number that a further line may have
abbrev pub next_least : ℕ → Lines → ℕ
next_least least [] = least
next_least least (l ∷ lines) = next_least (l.0 + 1) lines

pub next-low : (least : ℕ) (lines : Lines) → Ascending least lines → least ≤ next_least least lines
next-low least [] h = omega arith
next-low least (l ∷ lines) h = let rest = next-low (l.0 + 1) lines h.3 in omega (arith, rest, h.0)

-- a line more
pub ascending-more : (least n : ℕ) (a : List ℕ) (lines : Lines) → Ascending least lines → next_least least lines ≤ n → n ≤ 9999 → is_line a ≡ true → Ascending least (lines ++ (n, a) ∷ [])
ascending-more least n a [] h low high line = (low, high, line, tt)
ascending-more least n a (l ∷ lines) h low high line = (h.0, h.1, h.2, ascending-more (l.0 + 1) n a lines h.3 low high line)

pub next-more : (least n : ℕ) (a : List ℕ) (lines : Lines) → next_least least (lines ++ (n, a) ∷ []) ≡ n + 1
next-more least n a [] = refl
next-more least n a (l ∷ lines) = next-more (l.0 + 1) n a lines

pub greater : (n m : ℕ) → m < n → nat_cmp n m ≡ Greater
greater n m h = grind (arith, nat_tests)

pub put-by : (o : Ordering) (xs ys zs : Lines) → o ≡ Greater → match_ordering o xs ys zs ≡ zs
put-by Less xs ys zs h = cc
put-by Equal xs ys zs h = cc
put-by Greater xs ys zs h = refl

-- a line with a greater number is put at the end
pub with-last : (least n : ℕ) (a : List ℕ) (lines : Lines) → Ascending least lines → next_least least lines ≤ n → with_line n a lines ≡ lines ++ (n, a) ∷ []
with-last least n a [] h low = refl
with-last least n a (l ∷ lines) h low =
    let rest = next-low (l.0 + 1) lines h.3 in
    let more : l.0 < n = omega (arith, rest, low) in
    put-by (nat_cmp n l.0) _ _ (l ∷ with_line n a lines) (greater n l.0 more) ∙ ap (λ (xs : Lines). l ∷ xs) (with-last (l.0 + 1) n a lines h.3 low)

all-more : (lines : Lines) (l : ℕ × List ℕ) → all_line_bytes (lines ++ l ∷ []) ≡ all_line_bytes lines ++ line_bytes l
all-more [] l = append-nil (line_bytes l)
all-more (k ∷ lines) l = ap (λ (t : List ℕ). line_bytes k ++ t) (all-more lines l) ∙ sym (append_assoc (line_bytes k) (all_line_bytes lines) (line_bytes l))

-- what was read, with one line more
pub read-more : (bytes rest after : List ℕ) (lines : Lines) (l : ℕ × List ℕ) → bytes ≡ all_line_bytes lines ++ rest → rest ≡ line_bytes l ++ after → bytes ≡ all_line_bytes (lines ++ l ∷ []) ++ after
read-more bytes rest after lines l e k =
    e ∙ (ap (λ (t : List ℕ). all_line_bytes lines ++ t) k
    ∙ (sym (append_assoc (all_line_bytes lines) (line_bytes l) after) ∙ ap (λ (t : List ℕ). t ++ after) (sym (all-more lines l))))

-- ---- a line is told by its bytes

same-front : (a b x y : List ℕ) → length a ≡ length b → a ++ x ≡ b ++ y → (a ≡ b) × (x ≡ y)
same-front [] [] x y n e = (refl, e)
same-front [] (k ∷ b) x y n e = absurd (omega (arith, n))
same-front (h ∷ a) [] x y n e = absurd (omega (arith, n))
same-front (h ∷ a) (k ∷ b) x y n e =
    let first : h ≡ k = ap (λ (xs : List ℕ). get_or xs 0 0) e in
    let rest = same-front a b x y (omega (arith, n)) (ap (drop 1) e) in
    (ap₂ (λ (u : ℕ) (us : List ℕ). u ∷ us) first rest.0, rest.1)

pub same-line : (l m : ℕ × List ℕ) (x y : List ℕ) → line_bytes l ++ x ≡ line_bytes m ++ y → (l.0 ≡ m.0) × (l.1 ≡ m.1) × (x ≡ y)
same-line l m x y e =
    let high : l.0 / 256 ≡ m.0 / 256 = ap (λ (xs : List ℕ). get_or xs 0 0) e in
    let low : l.0 % 256 ≡ m.0 % 256 = ap (λ (xs : List ℕ). get_or xs 1 0) e in
    let n : length l.1 ≡ length m.1 = ap (λ (xs : List ℕ). get_or xs 2 0) e in
    let rest = same-front l.1 m.1 x y n (ap (drop 3) e) in
    (omega (arith, high, low), rest.0, rest.1)

pub record Left (least : ℕ) (rest end : List ℕ) : Type 0 where
  pub more : Lines
  pub ascending : Ascending least more
  pub same : rest ≡ all_line_bytes more ++ end

-- lines that begin as those that were read go on with what is left
pub left-over : (least : ℕ) (lines program : Lines) (rest z : List ℕ) → Ascending least lines → Ascending least program
    → all_line_bytes lines ++ rest ≡ all_line_bytes program ++ 255 ∷ 255 ∷ z → Left (next_least least lines) rest (255 ∷ 255 ∷ z)
left-over least [] program rest z h k e = record { more = program; ascending = k; same = e }
left-over least (l ∷ lines) [] rest z h k e =
    let bad : l.0 / 256 ≡ 255 = ap (λ (xs : List ℕ). get_or xs 0 0) e in
    absurd (omega (arith, bad, h.1))
left-over least (l ∷ lines) (m ∷ program) rest z h k e =
    let s = same-line l m (all_line_bytes lines ++ rest) (all_line_bytes program ++ 255 ∷ 255 ∷ z)
    (sym (append_assoc (line_bytes l) (all_line_bytes lines) rest) ∙ (e ∙ append_assoc (line_bytes m) (all_line_bytes program) (255 ∷ 255 ∷ z))) in
    left-over (l.0 + 1) lines program rest z h.3 (subst (λ (n : ℕ). Ascending (n + 1) program) (sym s.0) k.3) s.2

pub program-parts : (lines : Lines) (z : List ℕ) → program_bytes lines ++ z ≡ all_line_bytes lines ++ 255 ∷ 255 ∷ z
program-parts lines z = append_assoc (all_line_bytes lines) (255 ∷ 255 ∷ []) z

-- nothing is spelled where no line follows
pub no-line : (bytes rest : List ℕ) (lines program : Lines) → bytes ≡ all_line_bytes lines ++ rest → Ascending 0 lines → (first_is : (get_or rest 0 0 ≡ 255) → ⊥)
    → ((line : ℕ × List ℕ) (after : List ℕ) → IsLineAt (next_least 0 lines) line rest after → ⊥) → IsProgramText program bytes → ⊥
no-line bytes rest lines program e h other none is =
    let left = left-over 0 lines program rest (replicate is.zeros 0) h is.ascending (sym e ∙ (is.same ∙ program-parts program (replicate is.zeros 0))) in
    no-more left.more left.ascending left.same
  where
    no-more : (more : Lines) → Ascending (next_least 0 lines) more → rest ≡ all_line_bytes more ++ 255 ∷ 255 ∷ replicate is.zeros 0 → ⊥
    no-more [] k same = other (ap (λ (xs : List ℕ). get_or xs 0 0) same)
    no-more (m ∷ more) k same = none m (all_line_bytes more ++ 255 ∷ 255 ∷ replicate is.zeros 0)
        (record { low = k.0; high = k.1; spelled = k.2; same = same ∙ append_assoc (line_bytes m) (all_line_bytes more) (255 ∷ 255 ∷ replicate is.zeros 0) })

-- ---- the end

pub first-get : (bytes : List ℕ) → first bytes ≡ get_or bytes 0 0
first-get [] = refl
first-get (b ∷ bytes) = refl

-- nothing is spelled where the end stands, and something else than 00 after it
pub no-end : (bytes rest : List ℕ) (lines program : Lines) → bytes ≡ all_line_bytes lines ++ rest → Ascending 0 lines → get_or rest 0 0 ≡ 255 → (IsProgramEnd rest → ⊥) → IsProgramText program bytes → ⊥
no-end bytes rest lines program e h starts none is =
    let left = left-over 0 lines program rest (replicate is.zeros 0) h is.ascending (sym e ∙ (is.same ∙ program-parts program (replicate is.zeros 0))) in
    no-more left.more left.ascending left.same
  where
    no-more : (more : Lines) → Ascending (next_least 0 lines) more → rest ≡ all_line_bytes more ++ 255 ∷ 255 ∷ replicate is.zeros 0 → ⊥
    no-more [] k same = none (record { zeros = is.zeros; few = is.few; same = same })
    no-more (m ∷ more) k same =
        let bad : m.0 / 256 ≡ 255 = sym (ap (λ (xs : List ℕ). get_or xs 0 0) same) ∙ starts in
        absurd (omega (arith, bad, k.1))

pub whole-program : (bytes rest : List ℕ) (lines : Lines) → bytes ≡ all_line_bytes lines ++ rest → Ascending 0 lines → IsProgramEnd rest → IsProgramText lines bytes
whole-program bytes rest lines e h is = record {
  ascending = h;
  zeros = is.zeros;
  few = is.few;
  same = e ∙ (ap (λ (t : List ℕ). all_line_bytes lines ++ t) is.same ∙ sym (program-parts lines (replicate is.zeros 0)));
}

pub end-is : (bytes : List ℕ) → get_or bytes 0 0 ≡ 255 → get_or bytes 1 0 ≡ 255 → length bytes < 257 → list_all is_zero (drop 2 bytes) ≡ true → IsProgramEnd bytes
end-is [] a b n z = cc
end-is (x ∷ []) a b n z = cc
end-is (x ∷ y ∷ bytes) a b n z = record {
  zeros = length bytes;
  few = omega (arith, n);
  same = ap₂ (λ (u v : ℕ). u ∷ v ∷ bytes) a b ∙ ap (λ (t : List ℕ). 255 ∷ 255 ∷ t) (zeros-all bytes z);
}

pub end-second : (bytes : List ℕ) → IsProgramEnd bytes → get_or bytes 1 0 ≡ 255
end-second bytes is = ap (λ (xs : List ℕ). get_or xs 1 0) is.same

pub end-short : (bytes : List ℕ) → IsProgramEnd bytes → length bytes < 257
end-short bytes is = let n = ap length is.same in let z = length-replicate {A = ℕ} is.zeros 0 in omega (arith, n, z, is.few)

pub end-zeros : (bytes : List ℕ) → IsProgramEnd bytes → list_all is_zero (drop 2 bytes) ≡ true
end-zeros bytes is = ap (λ (xs : List ℕ). list_all is_zero (drop 2 xs)) is.same ∙ zeros-none is.zeros

-- ---- one line

pub line-is : (least h l n : ℕ) (after : List ℕ) → l < 256 → least ≤ h * 256 + l → h * 256 + l ≤ 9999 → n ≤ length after → is_line (take n after) ≡ true
    → IsLineAt least (h * 256 + l, take n after) (h ∷ l ∷ n ∷ after) (drop (length (take n after)) after)
line-is least h l n after byte low high room line =
    let long = length-take-le n after room in
    let first : h ≡ (h * 256 + l) / 256 = omega (arith, byte) in
    let second : l ≡ (h * 256 + l) % 256 = omega (arith, byte) in
    record {
      low = low;
      high = high;
      spelled = line;
      same = ap₂ (λ (u v : ℕ). u ∷ v ∷ n ∷ after) first second
          ∙ ap₂ (λ (m : ℕ) (t : List ℕ). (h * 256 + l) / 256 ∷ (h * 256 + l) % 256 ∷ m ∷ t) (sym long)
          (sym (ap (λ (m : ℕ). take n after ++ drop m after) long ∙ take-append-drop n after));
    }

pub record Parts (least h l n : ℕ) (after : List ℕ) (line : ℕ × List ℕ) : Type 0 where
  pub number : h * 256 + l ≡ line.0
  pub low : least ≤ line.0
  pub high : line.0 ≤ 9999
  pub room : n ≤ length after
  pub line_is : is_line (take n after) ≡ true

pub parts-of : (least h l n : ℕ) (after rest : List ℕ) (line : ℕ × List ℕ) → IsLineAt least line (h ∷ l ∷ n ∷ after) rest → Parts least h l n after line
parts-of least h l n after rest line is =
    let first : h ≡ line.0 / 256 = ap (λ (xs : List ℕ). get_or xs 0 0) is.same in
    let second : l ≡ line.0 % 256 = ap (λ (xs : List ℕ). get_or xs 1 0) is.same in
    let third : n ≡ length line.1 = ap (λ (xs : List ℕ). get_or xs 2 0) is.same in
    let all : after ≡ line.1 ++ rest = ap (drop 3) is.same in
    let long = ap length all ∙ length-append line.1 rest in
    let front : take n after ≡ line.1 = ap₂ (λ (m : ℕ) (t : List ℕ). take m t) third all ∙ take-append_seam line.1 rest in
    record {
      number = omega (arith, first, second);
      low = is.low;
      high = is.high;
      room = omega (arith, third, long);
      line_is = ap is_line front ∙ is.spelled;
    }

pub line-long : (least : ℕ) (bytes rest : List ℕ) (line : ℕ × List ℕ) → IsLineAt least line bytes rest → 3 ≤ length bytes
line-long least bytes rest line is = let n = ap length is.same ∙ length-append (line_bytes line) rest in omega (arith, n)
