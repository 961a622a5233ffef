use Rattle.std.proofs.Common.{◌<◌, ◌≤◌, ◌∙◌, ap, sym, length, get_or, arith}
use Rattle.b2_text.specs.Blocks.{is_opening, lines_laid}
use Rattle.b2_text.specs.Members.{lines_where}
use Rattle.b2_text.specs.Spots.{first_opening, is_function}
use Rattle.b2_text.proofs.Looking.{listed_all, listed_at, function_opens, no_line, opening_here, opening_listed, opening_none, opening_passed, spot_of}
use Rattle.b2_text.proofs.spots.first_function.Goals as goal

pub loop-i-init : goal.loop-i-init
loop-i-init c = opening_listed (is_function c.args.name) is_opening (function_opens c.args.name) (lines_laid c.args.block.now.items c.args.places.now.items)

pub returns-then-is_function : goal.returns-then-is_function
returns-then-is_function c =
    let ls = lines_laid c.args.block.now.items c.args.places.now.items in
    let fs = lines_where is_opening ls in
    let i = c.loop-i.i in
    let inside : i < length c.args.openers.now.items = omega (arith, c.loop-i-test.true, c.len-i-end.ensures) in
    let at = listed_at is_opening ls c.args.openers.now.items i c.index-number.result.now c.requires.ordered c.requires.listed inside c.index-number.ensures in
    let passes = ap (is_function c.args.name) (sym (c.first_unit.ensures (get_or fs i no_line).1 at.line)) ∙ sym c.is_function.ensures ∙ c.if-is_function.true in
    opening_here (is_function c.args.name) fs i c.first_of.result (first_opening (is_function c.args.name) ls) at.within passes (c.first_of.ensures ∙ ap spot_of at.number) c.loop-i.invariant

pub loop-i-preserved : goal.loop-i-preserved
loop-i-preserved c =
    let ls = lines_laid c.args.block.now.items c.args.places.now.items in
    let fs = lines_where is_opening ls in
    let i = c.loop-i.i in
    let inside : i < length c.args.openers.now.items = omega (arith, c.loop-i-test.true, c.len-i-end.ensures) in
    let at = listed_at is_opening ls c.args.openers.now.items i c.index-number.result.now c.requires.ordered c.requires.listed inside c.index-number.ensures in
    let passes = ap (is_function c.args.name) (sym (c.first_unit.ensures (get_or fs i no_line).1 at.line)) ∙ sym c.is_function.ensures ∙ c.if-is_function.false in
    opening_passed (is_function c.args.name) fs i (first_opening (is_function c.args.name) ls) at.within passes c.loop-i.invariant

pub returns : goal.returns
returns c =
    let ls = lines_laid c.args.block.now.items c.args.places.now.items in
    let end : length c.args.openers.now.items ≤ c.loop-i.i = omega (arith, c.loop-i-test.false, c.len-i-end.ensures) in
    opening_none (is_function c.args.name) (lines_where is_opening ls) c.loop-i.i (first_opening (is_function c.args.name) ls)
    (listed_all is_opening ls c.args.openers.now.items c.loop-i.i c.requires.listed end) c.loop-i.invariant
