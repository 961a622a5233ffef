use Rattle.std.proofs.Common.{List, [], Bool, Some, None, if◌then◌else◌, ap, subst, sym, refl, ◌∙◌, arith}
use Rattle.b2_access.specs.declared.devices.Device.{Device}
use Rattle.b2_machine.specs.Statements.{WentFast, texts_seen}
use Rattle.b2_machine.proofs.Onward.{next_stands}
use Rattle.b2_machine.proofs.StraightLine.{led_none, more_lead, none_lead}
use Rattle.b2_machine.proofs.straight_line.fast_on.Goals as goal

pub returns-in_default-clause-lead : goal.returns-in_default-clause-lead
returns-in_default-clause-lead g c devices = none_lead (g.L.Language.ways devices) c.args.home (texts_seen c.args.own.now c.args.text.now) c.args.me.now

pub returns-in_default-clause-led : goal.returns-in_default-clause-led
returns-in_default-clause-led g c devices = led_none (g.L.Language.ways devices) c.args.home (texts_seen c.args.own.now c.args.text.now) c.args.me.now

pub loop-init : goal.loop-init
loop-init g c =
    let s = texts_seen c.args.own.now c.args.text.now in
    record {
      lead = λ devices. none_lead (g.L.Language.ways devices) c.args.home s c.args.me.now;
      led = λ devices. led_none (g.L.Language.ways devices) c.args.home s c.args.me.now;
      there = sym c.place_in.ensures ∙ c.in-Some.is;
      counted = refl;
      few = omega arith;
      part = refl;
    }

pub loop-preserved : goal.loop-preserved
loop-preserved g c =
    let s = texts_seen c.args.own.now c.args.text.now in
    let lead = c.fast_at-lead.result in
    let gone_fast = λ (devices : List Device). subst (λ (b : Bool). WentFast (if b then Some (lead.line, lead.unit) else None) (g.L.Language.ways devices) c.loop.place c.loop.me c.fast_at-lead.new.me s) (sym c.is_done.ensures ∙ c.if-not-is_done.false) (c.fast_at-lead.ensures.gone_fast devices) in
    let more = λ (devices : List Device). more_lead (g.L.Language.ways devices) c.args.home s c.loop.steps c.args.me.now c.loop.me c.fast_at-lead.new.me (c.loop.invariant.lead devices) (c.loop.invariant.led devices) c.loop.place None c.loop.invariant.there (gone_fast devices).0 in
    record {
      lead = λ devices. (more devices).0;
      led = λ devices. (more devices).1;
      there = next_stands c.args.home c.loop.me c.fast_at-lead.new.me c.loop.place (lead.line, lead.unit) c.loop.invariant.there c.fast_at-lead.ensures.undisturbed (gone_fast []).1 ∙ ap Some (sym c.place-place.ensures);
      counted = omega arith;
      few = omega arith;
      part = c.fast_at-lead.ensures.part ∙ c.loop.invariant.part;
    }
