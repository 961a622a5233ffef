use Rattle.std.proofs.Common.{◌∙◌, reverse, ap, sym, not, rules}
use Rattle.std.proofs.lemmas.Fn.{filter_same}
use Rattle.b2_flow.specs.Frames.{is_immediate_loop}
use Rattle.b2_flow.specs.declared.frame.Frame.{Frame}
use Rattle.b2_flow.proofs.Searching.{filter_downward}
use Rattle.b2_flow.proofs.stack.Stack.drop_immediate.Goals as goal

pub returns : goal.returns
returns c = rw (sym c.self.view_is) (ap reverse (filter_same _ (λ (f : Frame). not (is_immediate_loop f)) _ (λ x b f' k. search rules) _ _ c.retain.ensures.filtered) ∙ filter_downward (λ (f : Frame). not (is_immediate_loop f)) c.self.inside.frames.items)
