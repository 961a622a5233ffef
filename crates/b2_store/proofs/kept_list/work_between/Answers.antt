use Rattle.std.proofs.Common.{◌≡◌, IsSome, Bool, Some, subst, sym, ap, ◌∙◌}
use Rattle.std.specs.Prelude.{is_ok, set, if◌then◌else◌, true}
use Rattle.std.specs.List.{insert}
use Rattle.b2_store.specs.Kept.{first_kept, is_kept}
use Rattle.b2_store.proofs.KeptItems.{both_there, done_with, fails_with, has_index, here, other_there}
use Rattle.b2_store.proofs.kept_list.work_between.Goals as goal

pub unwrap-i-requires : goal.unwrap-i-requires
unwrap-i-requires c = has_index (is_kept c.args.read.now) c.args.items.now.items c.kept_index.result c.requires.read (cc)

pub unwrap-j-requires : goal.unwrap-j-requires
unwrap-j-requires c =
    let xs = c.args.items.now.items in
    let items = c.remove-taken.new.self.items in
    let there = other_there c.args.work.now c.args.read.now c.args.changed.now c.requires.apart xs items c.unwrap-i.result c.remove-taken.result (cc) c.remove-taken.ensures.value c.remove-taken.ensures.items in
    has_index (is_kept c.args.changed.now) items c.kept_index-2.result (subst (λ o. IsSome o) (sym there) c.requires.there) (cc)

-- an item is another one, or nothing is
pub returns-clause-ok : goal.returns-clause-ok
returns-clause-ok c =
    let w = c.args.work.now in
    let xs = c.args.items.now.items in
    let read = c.args.read.now in
    let changed = c.args.changed.now in
    let i = c.unwrap-i.result in
    let j = c.unwrap-j.result in
    let taken = c.remove-taken.result in
    let items = c.remove-taken.new.self.items in
    let other = c.index_mut-other.result.now in
    let v = c.work_on-result.new.item in
    let there = other_there w read changed c.requires.apart xs items i taken (cc) c.remove-taken.ensures.value c.remove-taken.ensures.items in
    let second : first_kept (is_kept changed) xs ≡ Some other = sym there ∙ here (is_kept changed) items j other (cc) c.index_mut-other.ensures.value in
    let has_room : is_ok c.insert.result ≡ true = ap is_ok c.unwrap.ensures in
    let end = c.insert.ensures.items ∙ ap (λ (b : Bool). if b then insert (set items j v) i taken else set items j v) has_room
    ∙ both_there w read changed c.requires.apart xs items i taken (cc) c.remove-taken.ensures.value c.remove-taken.ensures.items j other v (cc) in
    done_with w read changed c.requires.apart xs items i taken (cc) c.remove-taken.ensures.value c.remove-taken.ensures.items other v c.insert.new.self.items c.work_on-result.result second c.work_on-result.ensures.ok end

pub returns-clause-fails : goal.returns-clause-fails
returns-clause-fails c =
    let w = c.args.work.now in
    let xs = c.args.items.now.items in
    let read = c.args.read.now in
    let changed = c.args.changed.now in
    let i = c.unwrap-i.result in
    let j = c.unwrap-j.result in
    let taken = c.remove-taken.result in
    let items = c.remove-taken.new.self.items in
    let other = c.index_mut-other.result.now in
    let there = other_there w read changed c.requires.apart xs items i taken (cc) c.remove-taken.ensures.value c.remove-taken.ensures.items in
    let second : first_kept (is_kept changed) xs ≡ Some other = sym there ∙ here (is_kept changed) items j other (cc) c.index_mut-other.ensures.value in
    fails_with w read changed c.requires.apart xs items i taken (cc) c.remove-taken.ensures.value c.remove-taken.ensures.items other c.work_on-result.result second c.work_on-result.ensures.fails
