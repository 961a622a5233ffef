use Rattle.std.proofs.Common.{ℕ, sym, ap, ◌∙◌}
use Rattle.b2_access.specs.declared.accesses.Answer.TheVariants as answer
use Rattle.b2_store.proofs.Giving.{answered, entered_text, text_of_nobody, unmarked_text}
use Rattle.b2_store.proofs.text_calls.enter.Goals as goal

pub returns-in_default : goal.returns-in_default
returns-in_default g c = text_of_nobody c.args.who (g.S.Lookups.state c.args.store.now) c.args.name c.args.mark (sym c.name_holder.ensures.held ∙ c.in_default.is)

pub returns-in_default-marked_in : goal.returns-in_default-marked_in
returns-in_default-marked_in g c =
    let s = g.S.Lookups.state c.args.store.now in
    ap (λ (code : ℕ). answered (answer.Refused code) s) c.known.ensures
    ∙ unmarked_text c.args.who s c.args.name c.args.mark c.in-Some.holder (sym c.name_holder.ensures.held ∙ c.in-Some.is) (sym c.marked_in.ensures ∙ c.in_default-marked_in.is)

pub returns : goal.returns
returns g c =
    let s = g.S.Lookups.state c.args.store.now in
    let holder = c.in-Some.holder in
    let spot = c.in-Some-marked_in.spot in
    ap (answered (answer.Entered holder spot)) c.in_ok-enter_text.ensures
    ∙ entered_text c.args.who s c.args.name c.args.mark holder spot (sym c.name_holder.ensures.held ∙ c.in-Some.is) (sym c.marked_in.ensures ∙ c.in-Some-marked_in.is)
