use Rattle.std.proofs.Common.{◌≡◌, ◌∙◌, ◌≤◌, ◌∷◌, ◌++◌, [], ℕ, List, false, get_or, length, drop, refl, sym, ap, ap₂, subst, arith}
use Rattle.b2_progfile.specs.Programs.{Ascending, all_line_bytes}
use Rattle.b2_progfile.specs.Loading.{IsLineAt}
use Rattle.b2_platter.proofs.Reading.{unspelled-more}
use Rattle.b2_progfile.proofs.Parsing.{ascending-more, first-get, next-more, next_least, no-end, no-line, read-more, with-last}
use Rattle.b2_progfile.proofs.reading.lines_of.Goals as goal

pub returns-in-Err-clause-err : goal.returns-in-Err-clause-err
returns-in-Err-clause-err c =
    unspelled-more c.in-Err.fault
    (λ none lines is. no-line c.args.bytes.now c.loop-alloc.rest.now c.loop-alloc.t.entries lines c.loop-alloc.invariant.read c.loop-alloc.invariant.ascending
    (λ e. c.loop-alloc-test.true (c.first.ensures ∙ (first-get c.loop-alloc.rest.now ∙ e)))
    (λ line after at. none line after (subst (λ (n : ℕ). IsLineAt n line c.loop-alloc.rest.now after) (sym c.loop-alloc.invariant.least) at)) is)
    c.in-Err.ensures.err

pub loop-alloc-preserved : goal.loop-alloc-preserved
loop-alloc-preserved c =
    let l = c.in-Ok.line in
    let was = c.loop-alloc.t.entries in
    let at = c.in-Ok.ensures.ok in
    let low : next_least 0 was ≤ l.0 = omega (arith, at.low, c.loop-alloc.invariant.least) in
    let now : c.gather.new.lines.entries ≡ was ++ (l.0, l.1) ∷ [] = c.in_ok-gather.ensures ∙ with-last 0 l.0 l.1 was c.loop-alloc.invariant.ascending low in
    let left : c.rest_after-rest.result.now ≡ drop (length l.1) (drop 3 c.loop-alloc.rest.now) = c.rest_after-rest.ensures ∙ ap₂ (λ (a : List ℕ) (t : List ℕ). drop (length a) t) c.bytes.ensures.value c.rest_after.ensures in
    record {
      read = read-more c.args.bytes.now c.loop-alloc.rest.now (drop (length l.1) (drop 3 c.loop-alloc.rest.now)) was l c.loop-alloc.invariant.read at.same
          ∙ ap₂ (λ (ls : List (ℕ × List ℕ)) (t : List ℕ). all_line_bytes ls ++ t) (sym now) (sym left);
      ascending = subst (Ascending 0) (sym now) (ascending-more 0 l.0 l.1 was c.loop-alloc.invariant.ascending low at.high at.spelled);
      least = sym (ap (next_least 0) now ∙ next-more 0 l.0 l.1 was);
    }

pub returns-then-not-is_program_end-clause-err : goal.returns-then-not-is_program_end-clause-err
returns-then-not-is_program_end-clause-err c =
    let begins : get_or c.loop-alloc.rest.now 0 0 ≡ 255 = sym (first-get c.loop-alloc.rest.now) ∙ (sym c.first.ensures ∙ c.loop-alloc-test.false) in
    let none : c.is_program_end.result ≡ false = cc in
    rw c.no_program.ensures
    (refl, λ lines is. no-end c.args.bytes.now c.loop-alloc.rest.now c.loop-alloc.t.entries lines c.loop-alloc.invariant.read c.loop-alloc.invariant.ascending begins (c.is_program_end.ensures.no none) is)
