-- Words in parts of equal width, and what masks, shifts and products do to all parts at once.
use Rattle.std.proofs.Common.{◌≡◌, ℕ, zero, suc, ◌+◌, ◌-◌, ◌*◌, ◌/◌, ◌%◌, ◌^◌, ◌<◌, ◌≤◌, bit_and, sym, refl, ap, ap₂, ◌∙◌, subst, arith, lit<, pow-add, add_comm, mul-one, div-add-mod', mod-lt, mul-le-mul_right}
use Rattle.std.proofs.lemmas.Nat.{and_block, and_mask, and_le_r, pow_pos, mul-add-lt, shr_below}
use Rattle.std.proofs.Math.Nat.{div-lt_iff_lt-mul, add-mul-div_left, mul-add-mod_self_right, pow-le-pow_right, div-div-eq-div-mul, pow-suc, pow-succ', pow-zero}
use Rattle.b2_dec.specs.Lanes.{rebased}

-- k parts, each `size` times the one below it, with what f finds in what is left of a number by `base`
unfoldable pub slots : ℕ → ℕ → (ℕ → ℕ) → ℕ → ℕ → ℕ
slots size base f zero v = 0
slots size base f (suc k) v = slots size base f k (v / base) * size + f v

-- the same number in k parts
unfoldable pub mask : ℕ → ℕ → ℕ → ℕ
mask size part zero = 0
mask size part (suc k) = mask size part k * size + part

abbrev pub double : ℕ → ℕ
double zero = zero
double (suc k) = suc (suc (double k))

pub rebased-slots : (base other n v : ℕ) → rebased base other n v ≡ slots other base (λ u. u % base) n v
unfolding rebased slots
rebased-slots base other zero v = refl
rebased-slots base other (suc n) v = ap (λ t. t * other + v % base) (rebased-slots base other n (v / base))

pub slots-same : (size base : ℕ) (f g : ℕ → ℕ) → ((v : ℕ) → f v ≡ g v) → (k v : ℕ) → slots size base f k v ≡ slots size base g k v
unfolding slots
slots-same size base f g e zero v = refl
slots-same size base f g e (suc k) v = ap₂ (λ s t. s * size + t) (slots-same size base f g e k (v / base)) (e v)

pub slots-sum : (size base c : ℕ) (f g : ℕ → ℕ) (k v : ℕ) → slots size base f k v + c * slots size base g k v ≡ slots size base (λ u. f u + c * g u) k v
unfolding slots
slots-sum size base c f g zero v = omega arith
slots-sum size base c f g (suc k) v =
    let rest = slots-sum size base c f g k (v / base) in
    let joined : (slots size base f k (v / base) + c * slots size base g k (v / base)) * size ≡ slots size base (λ u. f u + c * g u) k (v / base) * size = ap (λ t. t * size) rest in
    omega arith

-- two parts as one
pub slots-pairs : (size base : ℕ) (f : ℕ → ℕ) (k v : ℕ) → slots size base f (double k) v ≡ slots (size * size) (base * base) (λ u. f (u / base) * size + f u) k v
unfolding slots
slots-pairs size base f zero v = refl
slots-pairs size base f (suc k) v =
    let rest = ap (slots size base f (double k)) (div-div-eq-div-mul v base base) ∙ slots-pairs size base f k (v / (base * base)) in
    let joined : slots size base f (double k) (v / base / base) * size * size ≡ slots (size * size) (base * base) (λ u. f (u / base) * size + f u) k (v / (base * base)) * (size * size) =
    ap (λ t. t * size * size) rest ∙ turned _ size in
    omega arith
  where
    turned : (a s : ℕ) → a * s * s ≡ a * (s * s)
    turned a s = omega arith

pub slots-two : (size base : ℕ) (f : ℕ → ℕ) (v : ℕ) → slots size base f 2 v ≡ f (v / base) * size + f v
unfolding slots
slots-two size base f v = omega arith

-- a number in its own parts
pub slots-whole : (size : ℕ) → 0 < size → (k v : ℕ) → v < size ^ k → slots size size (λ u. u % size) k v ≡ v
unfolding slots
slots-whole size some zero v h = let one : size ^ 0 ≡ 1 = pow-zero size in omega arith
slots-whole size some (suc k) v h =
    let parts : v / size * size + v % size ≡ v = div-add-mod' v size in
    ap (λ t. t * size + v % size) (slots-whole size some k (v / size) (below size k v some (subst (λ t. v < t) (pow-suc size k) h))) ∙ parts
  where
    below : (s k v : ℕ) → 0 < s → v < s ^ k * s → v / s < s ^ k
    below s k v some h = (div-lt_iff_lt-mul some).1 h

pub slots-most : (size base : ℕ) (f : ℕ → ℕ) → ((v : ℕ) → f v < size) → (k v : ℕ) → slots size base f k v < size ^ k
unfolding slots
slots-most size base f small zero v = rw (pow-zero size) (lit< tt)
slots-most size base f small (suc k) v =
    rw (pow-succ' size k) (mul-add-lt (slots size base f k (v / base)) size (f v) (size ^ k) (slots-most size base f small k (v / base)) (small v))

-- One part: what is multiplied stays in its part, and what comes down from the next one is masked.
part-shifted : (s t y R r : ℕ) → (y * 2 ^ (s + t) + r) * R / 2 ^ s ≡ y * R / 2 ^ s * 2 ^ (s + t) + (y * R % 2 ^ s * 2 ^ t + r * R / 2 ^ s)
part-shifted s t y R r =
    let S : ℕ = 2 ^ s in
    let X : ℕ = y * R in
    let both : 2 ^ (s + t) ≡ S * 2 ^ t = pow-add 2 s t in
    let all : (y * 2 ^ (s + t) + r) * R ≡ r * R + S * (X * 2 ^ t) = rw both (omega arith) in
    let parts : X ≡ X / S * S + X % S = sym (div-add-mod' X S) in
    let moved : X * 2 ^ t ≡ X / S * 2 ^ (s + t) + X % S * 2 ^ t = ap (λ u. u * 2 ^ t) parts ∙ rw both (omega arith) in
    ap (λ u. u / S) all ∙ add-mul-div_left (r * R) (X * 2 ^ t) (pow_pos s) ∙ omega arith

part-masked : (s t m x q : ℕ) → m ≤ t → (x * 2 ^ t + q) % 2 ^ m ≡ q % 2 ^ m
part-masked s t m x q h =
    let whole : x * 2 ^ t ≡ x * 2 ^ (t - m) * 2 ^ m = ap (λ u. x * 2 ^ u) (rest t m h) ∙ ap (λ u. x * u) (pow-add 2 (t - m) m) ∙ omega arith in
    ap (λ u. (u + q) % 2 ^ m) whole ∙ mul-add-mod_self_right (x * 2 ^ (t - m)) (2 ^ m) q
  where
    rest : (t m : ℕ) → m ≤ t → t ≡ t - m + m
    rest t m h = omega arith

pub slots-masked : (s t m R base : ℕ) (f : ℕ → ℕ) → m ≤ t → ((v : ℕ) → f v * R < 2 ^ (s + t)) → (k v : ℕ)
    → bit_and (slots (2 ^ (s + t)) base f k v * R / 2 ^ s) (mask (2 ^ (s + t)) (2 ^ m - 1) k) ≡ slots (2 ^ (s + t)) base (λ u. f u * R / 2 ^ s % 2 ^ m) k v
unfolding slots mask
slots-masked s t m R base f h small zero v = let none = and_le_r (0 * R / 2 ^ s) 0 in omega arith
slots-masked s t m R base f h small (suc k) v =
    let y : ℕ = slots (2 ^ (s + t)) base f k (v / base) in
    let q : ℕ = f v * R / 2 ^ s in
    let few : q < 2 ^ t = shr_below (f v * R) t s (subst (λ u. f v * R < 2 ^ u) (add_comm s t) (small v)) in
    let low : y * R % 2 ^ s * 2 ^ t + q < 2 ^ (s + t) = subst (λ u. y * R % 2 ^ s * 2 ^ t + q < u) (sym (pow-add 2 s t)) (turned (2 ^ s) (2 ^ t) (y * R % 2 ^ s) q (mod-lt (y * R) (pow_pos s)) few) in
    let ones : 2 ^ m - 1 < 2 ^ (s + t) = mask-most m (s + t) (omega arith) in
    ap (λ u. bit_and u (mask (2 ^ (s + t)) (2 ^ m - 1) k * 2 ^ (s + t) + (2 ^ m - 1))) (part-shifted s t y R (f v))
    ∙ and_block (s + t) (y * R / 2 ^ s) (mask (2 ^ (s + t)) (2 ^ m - 1) k) (y * R % 2 ^ s * 2 ^ t + q) (2 ^ m - 1) low ones
    ∙ ap₂ (λ a b. a * 2 ^ (s + t) + b) (slots-masked s t m R base f h small k (v / base))
    (and_mask (y * R % 2 ^ s * 2 ^ t + q) m ∙ part-masked s t m (y * R % 2 ^ s) q h)
  where
    turned : (S T a b : ℕ) → a < S → b < T → a * T + b < S * T
    turned S T a b h k = let more : (a + 1) * T ≤ S * T = mul-le-mul_right T (next a S h) in omega arith
      where
        next : (a S : ℕ) → a < S → a + 1 ≤ S
        next a S h = omega arith

    mask-most : (m n : ℕ) → m ≤ n → 2 ^ m - 1 < 2 ^ n
    mask-most m n h = let most : 2 ^ m ≤ 2 ^ n = pow-le-pow_right {n = 2} (lit< tt) h in let some : 0 < 2 ^ m = pow_pos m in omega arith

-- the same without a product
pub slots-shifted : (s t m base : ℕ) (f : ℕ → ℕ) → m ≤ t → ((v : ℕ) → f v < 2 ^ (s + t)) → (k v : ℕ)
    → bit_and (slots (2 ^ (s + t)) base f k v / 2 ^ s) (mask (2 ^ (s + t)) (2 ^ m - 1) k) ≡ slots (2 ^ (s + t)) base (λ u. f u / 2 ^ s % 2 ^ m) k v
slots-shifted s t m base f h small k v =
    let one : slots (2 ^ (s + t)) base f k v * 1 ≡ slots (2 ^ (s + t)) base f k v = mul-one _ in
    ap (λ u. bit_and (u / 2 ^ s) (mask (2 ^ (s + t)) (2 ^ m - 1) k)) (sym one)
    ∙ slots-masked s t m 1 base f h (λ u. subst (λ w. w < 2 ^ (s + t)) (sym (mul-one (f u))) (small u)) k v
    ∙ slots-same (2 ^ (s + t)) base (λ u. f u * 1 / 2 ^ s % 2 ^ m) (λ u. f u / 2 ^ s % 2 ^ m) (λ u. ap (λ w. w / 2 ^ s % 2 ^ m) (mul-one (f u))) k v
