-- What statements leave of the `@` variables, by what they are made of.
use Rattle.std.proofs.Common.{◌≡◌, ◌∙◌, ℕ, ◌||◌, Bool, true, false, true≢false, Option, Some, None, is_some, ap, refl, sym}
use Rattle.b2_vars.specs.Assigned.{Assigned}
use Rattle.b2_vars.specs.Globals.{Globals, MayBecome}
use Rattle.b2_vars.specs.Tables.{VarsState}
use Rattle.b2_expr.specs.Workspace.{ChangesWhereReached, Reaches, WorkLeft, WorkState, among, counts_as_reached, on_globals, on_lent, then_works, unless_coded}

-- they stay as they are
pub stay : (g : Globals) → MayBecome g g
stay g = record { unreached = λ h. refl; absent = λ h. refl; there = refl }

-- one statement after another
pub after_both : (a b c : Globals) → MayBecome a b → MayBecome b c → MayBecome a c
after_both a b c p q = record {
  unreached = λ h. let e : c ≡ b = q.unreached h in e ∙ p.unreached (sym (ap (λ (g : Globals). g.reached) e) ∙ h);
  absent = λ h. let e : b ≡ a = p.absent h in q.absent (ap (λ (g : Globals). g.vars) e ∙ h) ∙ e;
  there = q.there ∙ p.there;
}

-- an assignment among them
neither : (a b : Bool) → (a || b) ≡ false → (a ≡ false) × (b ≡ false)
neither true b h = absurd (true≢false h)
neither false b h = (refl, h)

none_is_some : (v : VarsState) (o : Option VarsState) → o ≡ Some v → o ≡ None → ⊥
none_is_some v o some none = cc

assigned_there : (a : Assigned) (w : WorkState) (v : VarsState) → w.globals.vars ≡ Some v → (counts_as_reached a.code ≡ false → a.vars ≡ v) → MayBecome w.globals (on_globals a w).work.globals
assigned_there a w v some same = record {
  unreached = λ h.
      let both : (w.globals.reached ≡ false) × (counts_as_reached a.code ≡ false) = neither w.globals.reached (counts_as_reached a.code) h in
      ap (λ (b : Bool). record { vars = Some a.vars; reached = b }) (h ∙ sym both.0)
      ∙ ap (λ (o : Option VarsState). record { vars = o; reached = w.globals.reached }) (ap (λ (x : VarsState). Some x) (same both.1) ∙ sym some);
  absent = λ h. absurd (none_is_some v w.globals.vars some h);
  there = sym (ap is_some some);
}

lent_there : (does : VarsState → Assigned) (w : WorkState) (o : Option VarsState) → w.globals.vars ≡ o → ChangesWhereReached does → MayBecome w.globals (on_lent does o w).work.globals
lent_there does w None is same = stay w.globals
lent_there does w (Some v) is same = assigned_there (does v) w v is (same v)

pub among_reaches : (global : Bool) (does : VarsState → Assigned) → ChangesWhereReached does → Reaches (among global does)
among_reaches true does same w = lent_there does w w.globals.vars refl same
among_reaches false does same w = stay w.globals

-- what comes after a statement, where it had no code
unless_reaches : (code : Option ℕ) (g : Globals) (w : WorkState) (next : WorkState → WorkLeft) → MayBecome g w.globals → Reaches next → MayBecome g (unless_coded code w next).work.globals
unless_reaches None g w next before later = after_both g w.globals (next w).work.globals before (later w)
unless_reaches (Some code) g w next before later = before

pub then_reaches : (g : Globals) (r : WorkLeft) (next : WorkState → WorkLeft) → MayBecome g r.work.globals → Reaches next → MayBecome g (then_works r next).work.globals
then_reaches g r next before later = unless_reaches r.code g r.work next before later
