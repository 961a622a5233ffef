use Rattle.std.proofs.Common.{◌≡◌, IsSome, Bool, true, Some, subst, sym, ap, ◌∙◌}
use Rattle.std.specs.Prelude.{is_ok, set, if◌then◌else◌}
use Rattle.std.specs.List.{insert}
use Rattle.std.specs.Map.{lookup}
use Rattle.b2_store.proofs.Placed.{row_here}
use Rattle.b2_store.proofs.TwoRows.{both_there, fails_with, has_index, moved_with, of_key, other_there}
use Rattle.b2_store.proofs.two_rows.move_between_rows.Goals as goal

pub unwrap-i-requires : goal.unwrap-i-requires
unwrap-i-requires c = has_index c.args.rows.now.items c.args.from c.row_index.result c.requires.from (cc)

pub unwrap-j-requires : goal.unwrap-j-requires
unwrap-j-requires c =
    let rows = c.args.rows.now.items in
    let items = c.remove-taken.new.self.items in
    let there = other_there rows items c.unwrap-i.result c.remove-taken.result c.args.from c.args.to (cc) c.requires.apart c.remove-taken.ensures.items in
    has_index items c.args.to c.row_index-2.result (subst (λ o. IsSome o) (sym there) c.requires.to) (cc)

-- an image is another one, or nothing is
pub returns-clause-ok : goal.returns-clause-ok
returns-clause-ok c =
    let rows = c.args.rows.now.items in
    let from = c.args.from in
    let to = c.args.to in
    let i = c.unwrap-i.result in
    let j = c.unwrap-j.result in
    let taken = c.remove-taken.result in
    let items = c.remove-taken.new.self.items in
    let other = c.index_mut-other.result.now in
    let w = c.move_files-result.new.to in
    let there = other_there rows items i taken from to (cc) c.requires.apart c.remove-taken.ensures.items in
    let first : lookup (of_key from) rows ≡ Some taken.1 = row_here (of_key from) rows i taken (cc) c.remove-taken.ensures.value in
    let second : lookup (of_key to) rows ≡ Some other.1 = sym there ∙ row_here (of_key to) items j other (cc) c.index_mut-other.ensures.value in
    let has_room : is_ok c.insert.result ≡ true = ap is_ok c.unwrap.ensures in
    let end = c.insert.ensures.items ∙ ap (λ (b : Bool). if b then insert (set items j (other.0, w)) i taken else set items j (other.0, w)) has_room
    ∙ both_there rows items i j taken other from to w (cc) c.remove-taken.ensures.value c.requires.apart c.remove-taken.ensures.items (cc) c.index_mut-other.ensures.value in
    moved_with c.args.name from to rows taken.1 other.1 w c.insert.new.self.items c.move_files-result.result first second c.move_files-result.ensures.ok end

pub returns-clause-fails : goal.returns-clause-fails
returns-clause-fails c =
    let rows = c.args.rows.now.items in
    let from = c.args.from in
    let to = c.args.to in
    let i = c.unwrap-i.result in
    let j = c.unwrap-j.result in
    let taken = c.remove-taken.result in
    let items = c.remove-taken.new.self.items in
    let other = c.index_mut-other.result.now in
    let there = other_there rows items i taken from to (cc) c.requires.apart c.remove-taken.ensures.items in
    let first : lookup (of_key from) rows ≡ Some taken.1 = row_here (of_key from) rows i taken (cc) c.remove-taken.ensures.value in
    let second : lookup (of_key to) rows ≡ Some other.1 = sym there ∙ row_here (of_key to) items j other (cc) c.index_mut-other.ensures.value in
    fails_with c.args.name from to rows taken.1 other.1 c.move_files-result.result first second c.move_files-result.ensures.fails
