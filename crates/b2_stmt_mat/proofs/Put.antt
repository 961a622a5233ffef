-- What is put into an array among the own variables, or among the `@` variables, as these are lent.
use Rattle.std.proofs.Common.{◌≡◌, ◌∙◌, ℕ, ◌==◌, ◌||◌, not, Bool, true, false, List, if◌then◌else◌, Option, Some, Result, Ok, Err, refl, sym, ap, subst}
use Rattle.b2_base.specs.declared.codes.Fault.{Fault}
use Rattle.b2_base.specs.declared.codes.Fault.TheVariants as fault
use Rattle.b2_base.specs.declared.codes.TheConstants.{P43_SHAPES}
use Rattle.std.specs.Option.{unwrap_or}
use Rattle.b2_vars.specs.Tables.{VarsState}
use Rattle.b2_vars.specs.declared.name.Var.{Var}
use Rattle.b2_expr.specs.Answers.{TextAnswer}
use Rattle.b2_expr.specs.Workspace.{WorkLeft, WorkState, among, surroundings_of}
use Rattle.b2_matalpha.specs.Locators.{received}
use Rattle.b2_matalpha.specs.Sorts.{SortAnswer, is_too_short, sorted_places}
use Rattle.b2_receiver.specs.Assigning.{unassigned}
use Rattle.b2_receiver.specs.declared.receiver.Array.{Array}
use Rattle.b2_stmt_mat.specs.Arrays.{AnswersBy, Families, IfCode, IsArrayIn, IsArrayOf, all_bytes, bytes_of, families, named_bytes, shape_in, vars_of}
use Rattle.b2_stmt_mat.specs.ByteArrays.{all_or_refused, byte_items, bytes_moved, move_code, moved, sorted_bytes, with_all}
use Rattle.b2_stmt_mat.specs.Matrices.{HasRoom, Made, made_or_refused, made_seen}
use Rattle.b2_stmt_mat.specs.declared.byte_arrays.ArrayMove.{ArrayMove}
use Rattle.b2_stmt_mat.specs.declared.byte_arrays.ArraySort.{ArraySort}

own_vars : (g : Bool) (w : WorkState) → g ≡ false → vars_of g (families (surroundings_of w)) ≡ w.own
own_vars g w is = ap (λ (b : Bool). vars_of b (families (surroundings_of w))) is

lent_vars : (g : Bool) (w : WorkState) (v : VarsState) → g ≡ true → w.globals.vars ≡ Some v → vars_of g (families (surroundings_of w)) ≡ v
lent_vars g w v is some = ap (λ (b : Bool). vars_of b (families (surroundings_of w))) is ∙ ap (λ (o : Option VarsState). unwrap_or o w.own) some

pub own_there : (alpha : Bool) (a : Array) (w : WorkState) → a.global ≡ false → IsArrayIn alpha a (families (surroundings_of w)) → IsArrayOf alpha a.var w.own.table
own_there alpha a w is there = subst (λ (v : VarsState). IsArrayOf alpha a.var v.table) (own_vars a.global w is) there

pub lent_there : (alpha : Bool) (a : Array) (w : WorkState) (v : VarsState) → a.global ≡ true → w.globals.vars ≡ Some v → IsArrayIn alpha a (families (surroundings_of w)) → IsArrayOf alpha a.var v.table
lent_there alpha a w v is some there = subst (λ (x : VarsState). IsArrayOf alpha a.var x.table) (lent_vars a.global w v is some) there

pub own_bytes : (a : Array) (w : WorkState) → a.global ≡ false → all_bytes a (families (surroundings_of w)) ≡ bytes_of a.var w.own.table
own_bytes a w is = ap (λ (v : VarsState). bytes_of a.var v.table) (own_vars a.global w is)

pub lent_bytes : (a : Array) (w : WorkState) (v : VarsState) → a.global ≡ true → w.globals.vars ≡ Some v → all_bytes a (families (surroundings_of w)) ≡ bytes_of a.var v.table
lent_bytes a w v is some = ap (λ (x : VarsState). bytes_of a.var x.table) (lent_vars a.global w v is some)

pub own_room : (a : Array) (m : Made) (w : WorkState) → a.global ≡ false → HasRoom a.var m (vars_of a.global (families (surroundings_of w))).table → HasRoom a.var m w.own.table
own_room a m w is room = subst (λ (v : VarsState). HasRoom a.var m v.table) (own_vars a.global w is) room

pub lent_room : (a : Array) (m : Made) (w : WorkState) (v : VarsState) → a.global ≡ true → w.globals.vars ≡ Some v → HasRoom a.var m (vars_of a.global (families (surroundings_of w))).table → HasRoom a.var m v.table
lent_room a m w v is some room = subst (λ (x : VarsState). HasRoom a.var m x.table) (lent_vars a.global w v is some) room

-- nothing is put where a fault comes in place of what is made
pub made_refused : (f : Fault) (g : Bool) (v : Var) (r : Result Made ℕ) (w : WorkState) (left : WorkLeft) → AnswersBy made_seen r (Err f) → IfCode f (λ c. left ≡ among g (λ old. unassigned c old) w) → left ≡ among g (λ old. made_or_refused v r old) w
made_refused (fault.Code c) g v r w left is by = by ∙ ap (λ (x : Result Made ℕ). among g (λ old. made_or_refused v x old) w) (sym is)
made_refused fault.NoMemory g v r w left is by = absurd by

pub sort_refused : (f : Fault) (g : Bool) (v : Var) (r : TextAnswer) (w : WorkState) (left : WorkLeft) → AnswersBy byte_items r (Err f) → IfCode f (λ c. left ≡ among g (λ old. unassigned c old) w) → left ≡ among g (λ old. all_or_refused v r old) w
sort_refused (fault.Code c) g v r w left is by = by ∙ ap (λ (x : TextAnswer). among g (λ old. all_or_refused v x old) w) (sym is)
sort_refused fault.NoMemory g v r w left is by = absurd by

-- what a move makes is put
pub moved_put : (m : ArrayMove) (f : Families) (bytes : List ℕ) (code : Option ℕ) (w : WorkState) (left : WorkLeft) → left ≡ among m.to.global (λ old. record { vars = with_all m.to.var bytes old; code = code }) w → bytes ≡ bytes_moved m f → code ≡ move_code m f
    → left ≡ among m.to.global (moved m f) w
moved_put m f bytes code w left is made ends =
    is ∙ ap (λ (xs : List ℕ). among m.to.global (λ old. record { vars = with_all m.to.var xs old; code = code }) w) made ∙ ap (λ (o : Option ℕ). among m.to.global (λ old. record { vars = with_all m.to.var (bytes_moved m f) old; code = o }) w) ends

-- locators for which there is no room
sort_short : (long short : Bool) (bytes : List ℕ) → long ≡ true → short ≡ true → ◌≡◌ {A = TextAnswer} (if not long || short then Err P43_SHAPES else Ok bytes) (Err P43_SHAPES)
sort_short true true bytes a b = refl
sort_short false short bytes a b = refl
sort_short true false bytes a b = cc

pub sort_answered : (f : Fault) (m : ArraySort) (t : Families) → ((shape_in m.to t).len == 2) ≡ true → SortAnswer (is_too_short (named_bytes (all_bytes m.of t)) (shape_in m.of t).len (all_bytes m.to t)) (Err f) → AnswersBy byte_items (sorted_bytes m t) (Err f)
sort_answered (fault.Code c) m t two is =
    sort_short ((shape_in m.to t).len == 2) (is_too_short (named_bytes (all_bytes m.of t)) (shape_in m.of t).len (all_bytes m.to t)) (received (sorted_places (named_bytes (all_bytes m.of t)) (shape_in m.of t).len) (all_bytes m.to t)) two is.0
    ∙ ap (λ (n : ℕ). Err n) (sym is.1)
sort_answered fault.NoMemory m t two is = tt

pub sort_seen : (f : Fault) (a x : List ℕ) (n k : ℕ) (b y : List ℕ) → a ≡ x → n ≡ k → b ≡ y → SortAnswer (is_too_short a n b) (Err f) → SortAnswer (is_too_short x k y) (Err f)
sort_seen f a x n k b y is_a is_n is_b answer =
    subst (λ (z : List ℕ). SortAnswer (is_too_short x k z) (Err f)) is_b (subst (λ (z : ℕ). SortAnswer (is_too_short x z b) (Err f)) is_n (subst (λ (z : List ℕ). SortAnswer (is_too_short z n b) (Err f)) is_a answer))
