-- An image with a proper head and an empty index is good.
use Rattle.std.proofs.Common.{◌≡◌, ℕ, zero, suc, ◌+◌, ◌-◌, ◌*◌, ◌/◌, ◌%◌, ◌^◌, ◌<◌, ◌≤◌, Bool, true, false, ◌==◌, nat_le, List, [], ◌++◌, length, take, drop, replicate, slice_index, refl, sym, ap, ◌∙◌, subst, arith, append_assoc, length-append, length-drop, append-nil, lit≤}
use Rattle.std.specs.List.{list_all, range_with_len}
use Rattle.std.proofs.lemmas.Bool.{and_from, le-leb, eq-eqb}
use Rattle.std.proofs.lemmas.List.{take_at, drop_at, drop-drop, length-replicate, drop-append-le, drop-replicate, take-append-le, take-replicate, drop_all}
use Rattle.b2_platter.specs.declared.layout.Layout.{Layout}
use Rattle.b2_platter.specs.declared.layout.Layout.TheVariants.{Narrow, Wide}
use Rattle.b2_platter.specs.Layout.{version_of, width_of, fourth_place, most_sectors, is_zero, sector_number_at, first_place, second_place, third_place}
use Rattle.b2_platter.specs.Slot.{is_entry, is_free, is_spelled}
use Rattle.b2_platter.specs.Image.{row, image_head, index_of, total_of, catalogue_end, next_free}
use Rattle.b2_platter.specs.Checks.{is_sized, has_head, is_ordered, lies_in, each_two, differ_in_name, is_reachable, lie_apart, is_controlled, Good}
use Rattle.b2_platter.specs.Edits.{head_bytes, blank_image, formatted, CanFormat}
use Rattle.b2_platter.proofs.Ranges.{list_all-from}
use Rattle.b2_platter.proofs.Goodness.{Good-from_Checked, Parts-of, most_of_good}

-- what is read from a head
pub record HeadSays (layout : Layout) (image : List ℕ) (i t e n : ℕ) : Type 0 where
  pub version : slice_index (image_head image) 0 ≡ version_of layout
  pub index : index_of image ≡ i
  pub total : total_of layout image ≡ t
  pub end : catalogue_end layout image ≡ e
  pub next : next_free layout image ≡ n
  pub rest : list_all is_zero (drop (fourth_place layout) (image_head image)) ≡ true

two_bytes : (n : ℕ) → n < 65536 → n / 256 % 256 * 256 + (n % 256 * 1 + 0) ≡ n
two_bytes n h = omega arith

three_bytes : (n : ℕ) → n < 16777216 → n / 65536 % 256 * 65536 + (n / 256 % 256 * 256 + (n % 256 * 1 + 0)) ≡ n
three_bytes n h = omega arith

pub head_says : (layout : Layout) (index total end next : ℕ) (tail : List ℕ) → total < 256 ^ width_of layout → end < 256 ^ width_of layout → next < 256 ^ width_of layout → HeadSays layout (head_bytes layout index total end next ++ tail) index total end next
unfolding head_bytes row index_of total_of catalogue_end next_free
head_says Narrow index total end next tail ht he hn =
    record {
      version = refl;
      index = refl;
      total = two_bytes total ht;
      end = two_bytes end he;
      next = two_bytes next hn;
      rest = refl;
    }
head_says Wide index total end next tail ht he hn =
    record {
      version = refl;
      index = refl;
      total = three_bytes total ht;
      end = three_bytes end he;
      next = three_bytes next hn;
      rest = refl;
    }

pub length-head_bytes : (layout : Layout) (index total end next : ℕ) → length (head_bytes layout index total end next) ≡ 16
unfolding head_bytes
length-head_bytes Narrow index total end next = refl
length-head_bytes Wide index total end next = refl

-- a slot of 00 is spelled, and is no file's
no_entry : is_entry (replicate 16 0) ≡ false
unfolding is_entry
no_entry = refl

spelled_zeros : (layout : Layout) → is_spelled layout (replicate 16 0) ≡ true
unfolding is_spelled is_entry is_free
spelled_zeros layout = refl

-- tests of slots that pass where there is no file
lies_free : (layout : Layout) (index next : ℕ) (slot : List ℕ) → is_entry slot ≡ false → lies_in layout index next slot ≡ true
unfolding lies_in
lies_free layout index next slot e = rw e refl

differ_free : (slot other : List ℕ) → is_entry slot ≡ false → differ_in_name slot other ≡ true
unfolding differ_in_name
differ_free slot other e = rw e refl

reached_free : (image : List ℕ) (k : ℕ) → is_entry (row image k) ≡ false → is_reachable image k ≡ true
unfolding is_reachable
reached_free image k e = rw e refl

apart_free : (layout : Layout) (slot other : List ℕ) → is_entry slot ≡ false → lie_apart layout slot other ≡ true
unfolding lie_apart
apart_free layout slot other e = rw e refl

controlled_free : (layout : Layout) (image slot : List ℕ) → is_entry slot ≡ false → is_controlled layout image slot ≡ true
unfolding is_controlled
controlled_free layout image slot e = rw e refl

each_two-from_all : (r : ℕ → ℕ → Bool) (a n : ℕ) → ((j k : ℕ) → a ≤ j → j < a + n → r j k ≡ true) → each_two r (range_with_len a n) ≡ true
each_two-from_all r a zero h = refl
each_two-from_all r a (suc n) h =
    and_from _ _ (list_all-from (r a) (a + 1) n (λ k low high. h a k (omega arith) (omega arith))) (each_two-from_all r (a + 1) n (λ j k low high. h j k (omega arith) (omega arith)))

module _ (layout : Layout) (image : List ℕ) (empty : (k : ℕ) → 1 ≤ k → k < 1 + (16 * index_of image - 1) → row image k ≡ replicate 16 0) where
  free_row : (k : ℕ) → 1 ≤ k → k < 1 + (16 * index_of image - 1) → is_entry (row image k) ≡ false
  free_row k low high = ap is_entry (empty k low high) ∙ no_entry

  pub empty_good : is_sized image ≡ true → has_head layout image ≡ true → is_ordered layout image ≡ true → Good layout image
  empty_good sized image_head ordered =
      Good-from_Checked layout image (record {
        sized = sized;
        head = image_head;
        ordered = ordered;
        files = list_all-from _ 1 _ (λ k low high. lies_free layout _ _ _ (free_row k low high));
        spelled = list_all-from _ 1 _ (λ k low high. ap (is_spelled layout) (empty k low high) ∙ spelled_zeros layout);
        names = each_two-from_all _ 1 _ (λ j k low high. differ_free _ _ (free_row j low high));
        reached = list_all-from _ 1 _ (λ k low high. reached_free image k (free_row k low high));
        apart = each_two-from_all _ 1 _ (λ j k low high. apart_free layout _ _ (free_row j low high));
        controls = list_all-from _ 1 _ (λ k low high. controlled_free layout image _ (free_row k low high));
      })

-- the rows after a head and before the end of 00
pub row-fresh : (front rest : List ℕ) (n k : ℕ) → length front ≡ 16 → 1 ≤ k → 16 * k + 16 ≤ n → row (front ++ (replicate (n - 16) 0 ++ rest)) k ≡ replicate 16 0
unfolding row
row-fresh front rest n k long low high =
    let m = k - 1 in
    let rest_of : drop (16 * k) (front ++ (replicate (n - 16) 0 ++ rest)) ≡ drop (16 * (k - 1)) (replicate (n - 16) 0 ++ rest) =
    ap (λ (p : ℕ). drop p (front ++ (replicate (n - 16) 0 ++ rest))) (omega arith) ∙ sym (drop-drop (16 * (k - 1)) 16 _) ∙ ap (drop (16 * (k - 1))) (drop_at front (replicate (n - 16) 0 ++ rest) 16 long) in
    let cut : drop (16 * (k - 1)) (replicate (n - 16) 0 ++ rest) ≡ replicate (n - 16 - 16 * (k - 1)) 0 ++ rest =
    drop-append-le (16 * (k - 1)) (replicate (n - 16) 0) rest (omega (arith, length-replicate {A = ℕ} (n - 16) 0)) ∙ ap (λ (xs : List ℕ). xs ++ rest) (drop-replicate (16 * (k - 1)) (n - 16) 0) in
    ap (take 16) (rest_of ∙ cut)
    ∙ take-append-le 16 (replicate (n - 16 - 16 * (k - 1)) 0) rest (omega (arith, length-replicate {A = ℕ} (n - 16 - 16 * (k - 1)) 0))
    ∙ take-replicate 16 (n - 16 - 16 * (k - 1)) 0 (omega arith)

pub most_fits : (layout : Layout) (n : ℕ) → n ≤ most_sectors layout → n < 256 ^ width_of layout
most_fits Narrow n h = let m : n ≤ 32512 = h in omega arith
most_fits Wide n h = let m : n ≤ 262144 = h in omega arith

pub most_at_all : (layout : Layout) → most_sectors layout ≤ 262144
most_at_all Narrow = lit≤ tt
most_at_all Wide = lit≤ tt

-- a head whose numbers are in order, and 00 over the whole index
pub fresh_good : (layout : Layout) (index total end next n : ℕ) (rest : List ℕ) → 1 ≤ index → 256 * index ≤ n → length (head_bytes layout index total end next ++ (replicate (n - 16) 0 ++ rest)) ≡ 256 * total → 16 ≤ total → total ≤ most_sectors layout → index ≤ next → next ≤ end → end ≤ total → Good layout (head_bytes layout index total end next ++ (replicate (n - 16) 0 ++ rest))
unfolding is_sized has_head is_ordered
fresh_good layout index total end next n rest some room whole least most files free last =
    let image = head_bytes layout index total end next ++ (replicate (n - 16) 0 ++ rest) in
    let says : HeadSays layout image index total end next = head_says layout index total end next (replicate (n - 16) 0 ++ rest) (most_fits layout total most) (most_fits layout end (omega arith)) (most_fits layout next (omega arith)) in
    let at_most = most_at_all layout in
    let even : length image % 256 ≡ 0 = omega arith in
    let many : length image / 256 ≡ total = omega arith in
    let first : nat_le (index_of image) (next_free layout image) ≡ true = le-leb _ _ (omega (arith, says.index, says.next)) in
    let second : nat_le (next_free layout image) (catalogue_end layout image) ≡ true = le-leb _ _ (omega (arith, says.next, says.end)) in
    let third : nat_le (catalogue_end layout image) (total_of layout image) ≡ true = le-leb _ _ (omega (arith, says.end, says.total)) in
    empty_good layout image
    (λ k low high. row-fresh _ rest n k (length-head_bytes layout index total end next) low (let bound : k < 1 + (16 * index_of image - 1) = high in let is = says.index in omega arith))
    (and_from _ _ (and_from _ _ (eq-eqb _ _ even) (le-leb _ _ (omega arith))) (le-leb _ _ (omega arith)))
    (and_from _ _ (and_from _ _ (and_from _ _ (and_from _ _ (eq-eqb _ _ says.version) (le-leb _ _ (omega (arith, many, most)))) (le-leb _ _ (omega (arith, says.index)))) (eq-eqb _ _ (omega (arith, says.total)))) says.rest)
    (and_from _ _ (and_from _ _ first second) third)

pub blank_good : (layout : Layout) (sectors : ℕ) → 16 ≤ sectors → sectors ≤ most_sectors layout → Good layout (blank_image layout sectors)
blank_good layout sectors least most =
    let whole : length (head_bytes layout 2 sectors sectors 2 ++ (replicate (256 * sectors - 16) 0 ++ [])) ≡ 256 * sectors =
    omega (arith, length-append (head_bytes layout 2 sectors sectors 2) (replicate {A = ℕ} (256 * sectors - 16) 0 ++ []), length-append {A = ℕ} (replicate {A = ℕ} (256 * sectors - 16) 0) [], length-replicate {A = ℕ} (256 * sectors - 16) 0, length-head_bytes layout 2 sectors sectors 2) in
    subst (λ (xs : List ℕ). Good layout (head_bytes layout 2 sectors sectors 2 ++ xs)) (append-nil (replicate (256 * sectors - 16) 0))
    (fresh_good layout 2 sectors sectors 2 (256 * sectors) [] (lit≤ tt) (omega arith) whole least most (omega arith) (omega arith) (omega arith))

pub formatted_good : (layout : Layout) (image : List ℕ) (index end : ℕ) → Good layout image → CanFormat layout image index end → Good layout (formatted layout image index end)
formatted_good layout image index end good can =
    let parts = Parts-of layout image good in
    let most = most_of_good layout image good in
    let front = head_bytes layout index (total_of layout image) (end + 1) index in
    let low : 1 ≤ index = can.some in
    let high : index < end + 1 = can.order in
    let inside : end + 1 ≤ total_of layout image = can.within in
    let whole : length (front ++ (replicate (256 * index - 16) 0 ++ drop (256 * index) image)) ≡ 256 * total_of layout image =
    omega (arith, length-append front (replicate {A = ℕ} (256 * index - 16) 0 ++ drop (256 * index) image), length-append {A = ℕ} (replicate {A = ℕ} (256 * index - 16) 0) (drop (256 * index) image), length-replicate {A = ℕ} (256 * index - 16) 0, length-head_bytes layout index (total_of layout image) (end + 1) index, length-drop (256 * index) image, parts.whole) in
    subst (λ (xs : List ℕ). Good layout xs) (sym (append_assoc front (replicate (256 * index - 16) 0) (drop (256 * index) image)))
    (fresh_good layout index (total_of layout image) (end + 1) index (256 * index) (drop (256 * index) image) low (omega arith) whole (omega (arith, parts.least, parts.whole)) most (omega arith) (omega arith) inside)

-- a blank image, as it is made of anything of its length
pub blank_made : (layout : Layout) (sectors : ℕ) (bytes : List ℕ) → length bytes ≡ 256 * sectors → head_bytes layout 2 sectors sectors 2 ++ replicate (256 * sectors - 16) 0 ++ drop (256 * sectors) bytes ≡ blank_image layout sectors
blank_made layout sectors bytes long =
    ap (λ (xs : List ℕ). head_bytes layout 2 sectors sectors 2 ++ replicate (256 * sectors - 16) 0 ++ xs) (drop_all (256 * sectors) bytes (omega arith)) ∙ append-nil (blank_image layout sectors)

pub length-blank_image : (layout : Layout) (sectors : ℕ) → 1 ≤ sectors → length (blank_image layout sectors) ≡ 256 * sectors
length-blank_image layout sectors some =
    omega (arith, length-append (head_bytes layout 2 sectors sectors 2) (replicate {A = ℕ} (256 * sectors - 16) 0), length-replicate {A = ℕ} (256 * sectors - 16) 0, length-head_bytes layout 2 sectors sectors 2)

pub length-formatted : (layout : Layout) (image : List ℕ) (index end : ℕ) → 1 ≤ index → 256 * index ≤ length image → length (formatted layout image index end) ≡ length image
length-formatted layout image index end some room =
    omega (arith, length-append (head_bytes layout index (total_of layout image) (end + 1) index ++ replicate {A = ℕ} (256 * index - 16) 0) (drop (256 * index) image), length-append (head_bytes layout index (total_of layout image) (end + 1) index) (replicate {A = ℕ} (256 * index - 16) 0), length-replicate {A = ℕ} (256 * index - 16) 0, length-head_bytes layout index (total_of layout image) (end + 1) index, length-drop (256 * index) image)

row-front : (layout : Layout) (index total end next : ℕ) → image_head (head_bytes layout index total end next ++ []) ≡ head_bytes layout index total end next
unfolding row
row-front layout index total end next = take_at (head_bytes layout index total end next) [] 16 (length-head_bytes layout index total end next)

-- the same of a row 0 that is known to be a head
pub head_says_row : (layout : Layout) (image : List ℕ) (index total end next : ℕ) → total < 256 ^ width_of layout → end < 256 ^ width_of layout → next < 256 ^ width_of layout → image_head image ≡ head_bytes layout index total end next → HeadSays layout image index total end next
unfolding index_of total_of catalogue_end next_free
head_says_row layout image index total end next ht he hn is =
    let s = head_says layout index total end next [] ht he hn in
    let front : image_head (head_bytes layout index total end next ++ []) ≡ image_head image = row-front layout index total end next ∙ sym is in
    record {
      version = ap (λ (h : List ℕ). slice_index h 0) (sym front) ∙ s.version;
      index = ap (λ (h : List ℕ). slice_index h 1) (sym front) ∙ s.index;
      total = ap (sector_number_at layout first_place) (sym front) ∙ s.total;
      end = ap (sector_number_at layout (second_place layout)) (sym front) ∙ s.end;
      next = ap (sector_number_at layout (third_place layout)) (sym front) ∙ s.next;
      rest = ap (λ (h : List ℕ). list_all is_zero (drop (fourth_place layout) h)) (sym front) ∙ s.rest;
    }

-- a head whose numbers are in order passes the second and the third check
pub head_passes : (layout : Layout) (image : List ℕ) (i t e n : ℕ) → HeadSays layout image i t e n → length image ≡ 256 * t → t ≤ most_sectors layout → 1 ≤ i → i ≤ n → n ≤ e → e ≤ t → (has_head layout image ≡ true) × (is_ordered layout image ≡ true)
unfolding has_head is_ordered
head_passes layout image i t e n says whole most some files free last =
    let many : length image / 256 ≡ t = omega arith in
    let a : (slice_index (image_head image) 0 == version_of layout) ≡ true = eq-eqb _ _ says.version in
    let m : nat_le (length image / 256) (most_sectors layout) ≡ true = le-leb _ _ (omega (arith, many, most)) in
    let b : nat_le 1 (index_of image) ≡ true = le-leb _ _ (omega (arith, says.index)) in
    let c : (total_of layout image == length image / 256) ≡ true = eq-eqb _ _ (omega (arith, says.total)) in
    let first : nat_le (index_of image) (next_free layout image) ≡ true = le-leb _ _ (omega (arith, says.index, says.next)) in
    let second : nat_le (next_free layout image) (catalogue_end layout image) ≡ true = le-leb _ _ (omega (arith, says.next, says.end)) in
    let third : nat_le (catalogue_end layout image) (total_of layout image) ≡ true = le-leb _ _ (omega (arith, says.end, says.total)) in
    (and_from _ _ (and_from _ _ (and_from _ _ (and_from _ _ a m) b) c) says.rest, and_from _ _ (and_from _ _ first second) third)
