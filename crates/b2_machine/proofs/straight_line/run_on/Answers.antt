use Rattle.std.proofs.Common.{◌≡◌, ◌+◌, ◌-◌, ◌≤◌, Bool, if◌then◌else◌, ap, sym, refl, ◌∙◌, arith}
use Rattle.b2_machine.specs.Statements.{texts_seen}
use Rattle.b2_machine.specs.declared.statements.Opening.TheVariants as opening
use Rattle.b2_machine.proofs.Begins.{opened_so}
use Rattle.b2_machine.proofs.StraightLine.{ends_opened, ends_there, joined, led_none, more_lead, none_lead}
use Rattle.b2_machine.proofs.straight_line.run_on.Goals as goal

pub loop-gone_fast-init : goal.loop-gone_fast-init
loop-gone_fast-init g c =
    let ways = g.L.Language.ways c.args.devices.now in
    let s = texts_seen c.args.own.now c.args.text.now in
    record {
      lead = none_lead ways c.args.home s c.args.me.now;
      led = led_none ways c.args.home s c.args.me.now;
      few = omega arith;
      none = c.requires.empty;
      part = refl;
    }

pub returns-then-steps-left-clause-ran : goal.returns-then-steps-left-clause-ran
returns-then-steps-left-clause-ran g c =
    let ways = g.L.Language.ways c.args.devices.now in
    let s = texts_seen c.args.own.now c.args.text.now in
    let n = c.loop-gone_fast.steps + c.in_ok-gone_fast.gone_fast in
    let few : c.in_ok-gone_fast.gone_fast ≤ c.args.left - c.loop-gone_fast.steps = c.in_ok-gone_fast.ensures.few in
    let all = joined ways c.args.home s c.loop-gone_fast.steps c.args.me.now c.loop-gone_fast.me c.loop-gone_fast.me c.loop-gone_fast.invariant.lead c.loop-gone_fast.invariant.led c.in_ok-gone_fast.gone_fast c.fast_on.new.me (c.in_ok-gone_fast.ensures.lead c.args.devices.now) (c.in_ok-gone_fast.ensures.led c.args.devices.now) in
    let whole : n ≡ c.args.left = c.if-steps-left.true in
    ends_there ways c.args.home s n c.args.me.now c.fast_on.new.me c.fast_on.new.me all.0 all.1 c.args.left c.loop-gone_fast.access (omega arith) refl (λ some. absurd (omega arith))

pub returns-in_default-clause-ran : goal.returns-in_default-clause-ran
returns-in_default-clause-ran g c =
    let ways = g.L.Language.ways c.args.devices.now in
    let s = texts_seen c.args.own.now c.args.text.now in
    let n = c.loop-gone_fast.steps + c.in_ok-gone_fast.gone_fast in
    let few : c.in_ok-gone_fast.gone_fast ≤ c.args.left - c.loop-gone_fast.steps = c.in_ok-gone_fast.ensures.few in
    let all = joined ways c.args.home s c.loop-gone_fast.steps c.args.me.now c.loop-gone_fast.me c.loop-gone_fast.me c.loop-gone_fast.invariant.lead c.loop-gone_fast.invariant.led c.in_ok-gone_fast.gone_fast c.fast_on.new.me (c.in_ok-gone_fast.ensures.lead c.args.devices.now) (c.in_ok-gone_fast.ensures.led c.args.devices.now) in
    ends_there ways c.args.home s n c.args.me.now c.fast_on.new.me c.fast_on.new.me all.0 all.1 c.args.left c.loop-gone_fast.access (omega arith) refl (λ some. sym c.place_in.ensures ∙ c.in_default.is)

pub returns-then-not-led-clause-ran : goal.returns-then-not-led-clause-ran
returns-then-not-led-clause-ran g c =
    let ways = g.L.Language.ways c.args.devices.now in
    let s = texts_seen c.args.own.now c.args.text.now in
    let n = c.loop-gone_fast.steps + c.in_ok-gone_fast.gone_fast in
    let few : c.in_ok-gone_fast.gone_fast ≤ c.args.left - c.loop-gone_fast.steps = c.in_ok-gone_fast.ensures.few in
    let mid = c.fast_on.new.me in
    let all = joined ways c.args.home s c.loop-gone_fast.steps c.args.me.now c.loop-gone_fast.me c.loop-gone_fast.me c.loop-gone_fast.invariant.lead c.loop-gone_fast.invariant.led c.in_ok-gone_fast.gone_fast mid (c.in_ok-gone_fast.ensures.lead c.args.devices.now) (c.in_ok-gone_fast.ensures.led c.args.devices.now) in
    let opens = opened_so ways c.in-Some.place mid c.open_in_program.new.me s c.open_in_program.new.access (if c.in_ok-led.led then opening.Leads else c.open_in_program.new.opening) c.open_in_program.new.opening (ap (λ (b : Bool). if b then opening.Leads else c.open_in_program.new.opening) c.if-not-led.true) c.in_ok-led.ensures.opened in
    ends_opened ways c.args.home s n c.args.me.now mid c.open_in_program.new.me all.0 all.1 c.args.left c.in-Some.place c.open_in_program.new.access c.open_in_program.new.opening (omega arith) (sym c.place_in.ensures ∙ c.in-Some.is) opens

pub loop-gone_fast-preserved : goal.loop-gone_fast-preserved
loop-gone_fast-preserved g c =
    let ways = g.L.Language.ways c.args.devices.now in
    let s = texts_seen c.args.own.now c.args.text.now in
    let n = c.loop-gone_fast.steps + c.in_ok-gone_fast.gone_fast in
    let few : c.in_ok-gone_fast.gone_fast ≤ c.args.left - c.loop-gone_fast.steps = c.in_ok-gone_fast.ensures.few in
    let mid = c.fast_on.new.me in
    let all = joined ways c.args.home s c.loop-gone_fast.steps c.args.me.now c.loop-gone_fast.me c.loop-gone_fast.me c.loop-gone_fast.invariant.lead c.loop-gone_fast.invariant.led c.in_ok-gone_fast.gone_fast mid (c.in_ok-gone_fast.ensures.lead c.args.devices.now) (c.in_ok-gone_fast.ensures.led c.args.devices.now) in
    let opens = opened_so ways c.in-Some.place mid c.open_in_program.new.me s c.open_in_program.new.access (if c.in_ok-led.led then opening.Leads else c.open_in_program.new.opening) opening.Leads (ap (λ (b : Bool). if b then opening.Leads else c.open_in_program.new.opening) c.if-not-led.false) c.in_ok-led.ensures.opened in
    let more = more_lead ways c.args.home s n c.args.me.now mid c.open_in_program.new.me all.0 all.1 c.in-Some.place c.open_in_program.new.access (sym c.place_in.ensures ∙ c.in-Some.is) opens in
    record {
      lead = more.0;
      led = more.1;
      few = omega arith;
      none = opens.2;
      part = c.in_ok-led.ensures.part ∙ c.in_ok-gone_fast.ensures.part ∙ c.loop-gone_fast.invariant.part;
    }
