-- LIMITS by its rows: the drive, a name or none, and three receivers or four.
use Rattle.std.proofs.Common.{◌≡◌, ◌<◌, ℕ, ◌+◌, ◌==◌, ℤ, pos, Bool, true, false, if◌then◌else◌, List, [], ◌∷◌, length, drop, get_or, Option, Some, None, Ok, refl, sym, ap, subst, ◌∙◌, add-one, drop-cons}
use Rattle.b2_base.specs.Byte as byte
use Rattle.b2_base.specs.Lexical.{first}
use Rattle.b2_base.specs.declared.codes.TheConstants.{D82_NO_FILE, S13_SEPARATOR}
use Rattle.b2_atom.specs.Words.{Text}
use Rattle.b2_atom.specs.Tokens.Token.{Coded}
use Rattle.b2_atom.specs.Tree.{Trees}
use Rattle.b2_atom.specs.Tree.Trees.{Done, Put, In}
use Rattle.b2_atom.specs.Grammar.{row_items, starts}
use Rattle.b2_atom.specs.declared.words.Origin.TheVariants.{Atoms}
use Rattle.b2_atom.specs.declared.words.TheConstants as word
use Rattle.b2_atom.specs.declared.rows.TheConstants as row
use Rattle.b2_atom.specs.declared.forms.Start.TheVariants as start
use Rattle.b2_atom.specs.declared.forms.Item.{Item}
use Rattle.b2_atom.specs.declared.forms.Item.TheVariants.{Word, Sign, Part, Maybe, Either}
use Rattle.b2_rows.specs.Rows.{is_phrase, tree_at, after_phrase, When}
use Rattle.b2_rows.proofs.RowsRead.{stands_of}
use Rattle.b2_expr.specs.Answers.{◌>>=◌}
use Rattle.b2_expr.specs.Scope.{Context}
use Rattle.b2_expr.specs.Workspace.{WorkState, WorkLeft, refused, then_works, unless_coded}
use Rattle.b2_receiver.specs.Receiving.{assign_number_at}
use Rattle.b2_access.specs.Disks.{FourNumbers}
use Rattle.b2_access.specs.declared.accesses.Access.TheVariants as access
use Rattle.b2_drive.specs.Drives.{DrivesSeen, drive_used}
use Rattle.b2_drive.specs.FileNames.{name_given}
use Rattle.b2_stmt_disk.specs.Limits.{after_name, asks_limits, gives_each, gives_file, gives_limits, gives_operands, is_absent, named_file, numbers_of, receivers_in, whole_number}
use Rattle.b2_stmt_disk.specs.Receivers.{AreReceivers, is_fourth_after, next_receiver, receivers_at}

taken : (b : Bool) (x y : Type 0) → b ≡ true → When b x y → x
taken true x y is h = h
taken false x y is h = cc

other : (b : Bool) (x y : Type 0) → b ≡ false → When b x y → y
other true x y is h = cc
other false x y is h = h

-- receivers that take numbers, the first of them and those after it
pub front_of : (zs : List ℤ) (i : ℕ) → i < length zs → drop i zs ≡ get_or zs i (pos 0) ∷ drop (i + 1) zs
front_of zs i h = rw (add-one, drop-cons zs i (pos 0))

pub first_stands : (zs rest : List ℤ) (z : ℤ) (t : Text) → zs ≡ z ∷ rest → AreReceivers (length zs) t → is_phrase row.NUMERIC_RECEIVER t ≡ true
first_stands zs rest z t e s = (subst (λ (xs : List ℤ). AreReceivers (length xs) t) e s).0

pub others_stand : (zs rest : List ℤ) (z : ℤ) (t : Text) → zs ≡ z ∷ rest → AreReceivers (length zs) t → AreReceivers (length rest) (next_receiver t)
others_stand zs rest z t e s = (subst (λ (xs : List ℤ). AreReceivers (length xs) t) e s).1

abbrev gives_at : List ℤ → Text → WorkState → WorkLeft
gives_at zs t w = gives_each zs (receivers_at (length zs) t) w

pub given_next : (zs rest : List ℤ) (z : ℤ) (t : Text) (old new : WorkState) (code : Option ℕ) → zs ≡ z ∷ rest
    → record { work = new; code = code } ≡ assign_number_at (whole_number z) (tree_at row.NUMERIC_RECEIVER t) old → code ≡ None
    → gives_each rest (receivers_at (length rest) (next_receiver t)) new ≡ gives_each zs (receivers_at (length zs) t) old
given_next zs rest z t old new code e is none =
    sym (ap (λ (c : Option ℕ). unless_coded c new (gives_at rest (next_receiver t))) none)
    ∙ ap (λ (r : WorkLeft). then_works r (gives_at rest (next_receiver t))) is
    ∙ sym (ap (λ (xs : List ℤ). gives_at xs t old) e)

pub given_coded : (zs rest : List ℤ) (z : ℤ) (t : Text) (old new : WorkState) (code : Option ℕ) (c : ℕ) → zs ≡ z ∷ rest
    → record { work = new; code = code } ≡ assign_number_at (whole_number z) (tree_at row.NUMERIC_RECEIVER t) old → code ≡ Some c
    → gives_each zs (receivers_at (length zs) t) old ≡ record { work = new; code = code }
given_coded zs rest z t old new code c e is some =
    ap (λ (xs : List ℤ). gives_at xs t old) e
    ∙ sym (ap (λ (r : WorkLeft). then_works r (gives_at rest (next_receiver t))) is)
    ∙ ap (λ (o : Option ℕ). unless_coded o new (gives_at rest (next_receiver t))) some
    ∙ ap (λ (o : Option ℕ). record { work = new; code = o }) (sym some)

-- three receivers
abbrev three_items : List Item
three_items = Part row.NUMERIC_RECEIVER ∷ Sign byte.comma S13_SEPARATOR ∷ Part row.NUMERIC_RECEIVER ∷ Sign byte.comma S13_SEPARATOR ∷ Part row.NUMERIC_RECEIVER ∷ []

three_row : row_items row.DISK_LIMITS ≡ three_items
unfolding row_items
three_row = refl

pub disk_three : (t : Text) → is_phrase row.DISK_LIMITS t ≡ true → AreReceivers 3 t
disk_three t ok = let s = (stands_of row.DISK_LIMITS three_items t three_row ok).0 in (s.0, (s.1.1.0, (s.1.1.1.1.0, tt)))

abbrev three_tree : Text → Trees → Trees
three_tree t more =
    In 2 (tree_at row.NUMERIC_RECEIVER t) (Put (Coded byte.comma) (In 2 (tree_at row.NUMERIC_RECEIVER (next_receiver t)) (Put (Coded byte.comma) (In 2 (tree_at row.NUMERIC_RECEIVER (next_receiver (next_receiver t))) more))))

disk_tree : (t : Text) → is_phrase row.DISK_LIMITS t ≡ true → tree_at row.DISK_LIMITS t ≡ three_tree t Done
disk_tree t ok = (stands_of row.DISK_LIMITS three_items t three_row ok).1

pub disk_given : (n : FourNumbers) (t : Text) (w : WorkState) → is_phrase row.DISK_LIMITS t ≡ true
    → gives_each (numbers_of n) (receivers_in (tree_at row.DISK_LIMITS t)) w ≡ gives_each (n.first ∷ n.second ∷ n.third ∷ []) (receivers_at 3 t) w
disk_given n t w ok = ap (λ (u : Trees). gives_each (numbers_of n) (receivers_in u) w) (disk_tree t ok)

-- a name, three receivers, and a fourth or none
abbrev file_items : List Item
file_items =
    Part row.ALPHA ∷ Sign byte.comma S13_SEPARATOR ∷ Part row.NUMERIC_RECEIVER ∷ Sign byte.comma S13_SEPARATOR ∷ Part row.NUMERIC_RECEIVER ∷ Sign byte.comma S13_SEPARATOR ∷ Part row.NUMERIC_RECEIVER
    ∷ Maybe (start.Code byte.comma) row.COMMA_NUMERIC_RECEIVER ∷ []

file_row : row_items row.FILE_LIMITS ≡ file_items
unfolding row_items
file_row = refl

abbrev fourth_items : List Item
fourth_items = Sign byte.comma S13_SEPARATOR ∷ Part row.NUMERIC_RECEIVER ∷ []

fourth_row : row_items row.COMMA_NUMERIC_RECEIVER ≡ fourth_items
unfolding row_items
fourth_row = refl

comma_starts : (t : Text) (b : Bool) → (first t == byte.comma) ≡ b → starts Atoms (start.Code byte.comma) t ≡ b
unfolding starts
comma_starts t b is = is

abbrev pub receivers_text : Text → Text
receivers_text t = drop 1 (after_phrase row.ALPHA t)

-- what stands after three receivers
abbrev after_three : Text → Text
after_three t = after_phrase row.NUMERIC_RECEIVER (next_receiver (next_receiver t))

pub file_name_here : (t : Text) → is_phrase row.FILE_LIMITS t ≡ true → is_phrase row.ALPHA t ≡ true
file_name_here t ok = (stands_of row.FILE_LIMITS file_items t file_row ok).0.0

pub file_three : (t : Text) → is_phrase row.FILE_LIMITS t ≡ true → AreReceivers 3 (receivers_text t)
file_three t ok = let s = (stands_of row.FILE_LIMITS file_items t file_row ok).0 in (s.1.1.0, (s.1.1.1.1.0, (s.1.1.1.1.1.1.0, tt)))

fourth_here : (t : Text) → is_phrase row.FILE_LIMITS t ≡ true → is_fourth_after (receivers_text t) ≡ true → is_phrase row.COMMA_NUMERIC_RECEIVER (after_three (receivers_text t)) ≡ true
fourth_here t ok is =
    (taken (starts Atoms (start.Code byte.comma) (after_three (receivers_text t))) _ _ (comma_starts (after_three (receivers_text t)) true is) (stands_of row.FILE_LIMITS file_items t file_row ok).0.1.1.1.1.1.1.1).0

pub file_four : (t : Text) → is_phrase row.FILE_LIMITS t ≡ true → is_fourth_after (receivers_text t) ≡ true → AreReceivers 4 (receivers_text t)
file_four t ok is =
    let three = file_three t ok in
    (three.0, (three.1.0, (three.1.1.0, ((stands_of row.COMMA_NUMERIC_RECEIVER fourth_items (after_three (receivers_text t)) fourth_row (fourth_here t ok is)).0.1.0, tt))))

abbrev fourth_tree : Text → Bool → Trees
fourth_tree t b = if b then In 1 (tree_at row.COMMA_NUMERIC_RECEIVER (after_three t)) Done else In 0 Done Done

abbrev file_tree_by : Text → Bool → Trees
file_tree_by t b = In 2 (tree_at row.ALPHA t) (Put (Coded byte.comma) (three_tree (receivers_text t) (fourth_tree (receivers_text t) b)))

file_tree : (t : Text) (b : Bool) → is_phrase row.FILE_LIMITS t ≡ true → is_fourth_after (receivers_text t) ≡ b → tree_at row.FILE_LIMITS t ≡ file_tree_by t b
file_tree t b ok is = (stands_of row.FILE_LIMITS file_items t file_row ok).1 ∙ ap (file_tree_by t) (comma_starts (after_three (receivers_text t)) b is)

three_listed : (t : Text) → is_phrase row.FILE_LIMITS t ≡ true → is_fourth_after (receivers_text t) ≡ false → receivers_in (after_name (tree_at row.FILE_LIMITS t)) ≡ receivers_at 3 (receivers_text t)
three_listed t ok is = ap (λ (u : Trees). receivers_in (after_name u)) (file_tree t false ok is)

four_listed : (t : Text) → is_phrase row.FILE_LIMITS t ≡ true → is_fourth_after (receivers_text t) ≡ true → receivers_in (after_name (tree_at row.FILE_LIMITS t)) ≡ receivers_at 4 (receivers_text t)
four_listed t ok is =
    ap (λ (u : Trees). receivers_in (after_name u)) (file_tree t true ok is)
    ∙ ap (λ (u : Trees). receivers_in (three_tree (receivers_text t) (In 1 u Done)))
    (stands_of row.COMMA_NUMERIC_RECEIVER fourth_items (after_three (receivers_text t)) fourth_row (fourth_here t ok is)).1

-- what they take
pub four_given : (n : FourNumbers) (t : Text) (w : WorkState) → is_phrase row.FILE_LIMITS t ≡ true → is_fourth_after (receivers_text t) ≡ true
    → gives_file n (receivers_in (after_name (tree_at row.FILE_LIMITS t))) w ≡ gives_each (numbers_of n) (receivers_at 4 (receivers_text t)) w
four_given n t w ok is = ap (λ (ts : List Trees). gives_file n ts w) (four_listed t ok is)

three_by : (n : FourNumbers) (t : Text) (w : WorkState) (b : Bool) → is_absent n ≡ b
    → gives_file n (receivers_at 3 t) w ≡ (if b then refused D82_NO_FILE w else gives_each (n.first ∷ n.second ∷ n.third ∷ []) (receivers_at 3 t) w)
three_by n t w b is = ap (λ (x : Bool). if x then refused D82_NO_FILE w else gives_each (n.first ∷ n.second ∷ n.third ∷ []) (receivers_at 3 t) w) is

pub three_given : (n : FourNumbers) (t : Text) (w : WorkState) → is_phrase row.FILE_LIMITS t ≡ true → is_fourth_after (receivers_text t) ≡ false → is_absent n ≡ false
    → gives_file n (receivers_in (after_name (tree_at row.FILE_LIMITS t))) w ≡ gives_each (n.first ∷ n.second ∷ n.third ∷ []) (receivers_at 3 (receivers_text t)) w
three_given n t w ok is kind = ap (λ (ts : List Trees). gives_file n ts w) (three_listed t ok is) ∙ three_by n (receivers_text t) w false kind

pub none_given : (n : FourNumbers) (t : Text) (w : WorkState) → is_phrase row.FILE_LIMITS t ≡ true → is_fourth_after (receivers_text t) ≡ false → is_absent n ≡ true
    → gives_file n (receivers_in (after_name (tree_at row.FILE_LIMITS t))) w ≡ refused D82_NO_FILE w
none_given n t w ok is kind = ap (λ (ts : List Trees). gives_file n ts w) (three_listed t ok is) ∙ three_by n (receivers_text t) w true kind

-- LIMITS
abbrev limits_items : List Item
limits_items = Word word.LIMITS ∷ Part row.DRIVE_COMMA ∷ Either start.Alpha row.FILE_LIMITS row.DISK_LIMITS ∷ []

limits_row : row_items row.LIMITS ≡ limits_items
unfolding row_items
limits_row = refl

abbrev pub operands_text : Text → Text
operands_text t = after_phrase row.DRIVE_COMMA (drop 1 t)

pub limits_drive : (t : Text) → is_phrase row.LIMITS t ≡ true → is_phrase row.DRIVE_COMMA (drop 1 t) ≡ true
limits_drive t ok = (stands_of row.LIMITS limits_items t limits_row ok).0.1.0

pub file_here : (t : Text) → is_phrase row.LIMITS t ≡ true → starts Atoms start.Alpha (operands_text t) ≡ true → is_phrase row.FILE_LIMITS (operands_text t) ≡ true
file_here t ok is = (taken (starts Atoms start.Alpha (operands_text t)) _ _ is (stands_of row.LIMITS limits_items t limits_row ok).0.1.1).0

pub disk_here : (t : Text) → is_phrase row.LIMITS t ≡ true → starts Atoms start.Alpha (operands_text t) ≡ false → is_phrase row.DISK_LIMITS (operands_text t) ≡ true
disk_here t ok is = (other (starts Atoms start.Alpha (operands_text t)) _ _ is (stands_of row.LIMITS limits_items t limits_row ok).0.1.1).0

abbrev pub operands_by : Text → Bool → Trees
operands_by t b = if b then In 1 (tree_at row.FILE_LIMITS t) Done else In 0 (tree_at row.DISK_LIMITS t) Done

abbrev pub operands_tree : Text → Trees
operands_tree t = operands_by (operands_text t) (starts Atoms start.Alpha (operands_text t))

pub asks_is : (d : DrivesSeen) (e : Context) (t : Text) → is_phrase row.LIMITS t ≡ true
    → asks_limits d e (tree_at row.LIMITS t) ≡ (drive_used d (tree_at row.DRIVE_COMMA (drop 1 t)) >>= (λ addr. named_file e (operands_tree t) >>= (λ name. Ok (access.Limits addr name))))
asks_is d e t ok = ap (asks_limits d e) (stands_of row.LIMITS limits_items t limits_row ok).1

pub named_of_file : (e : Context) (t : Text) → is_phrase row.LIMITS t ≡ true → starts Atoms start.Alpha (operands_text t) ≡ true
    → named_file e (operands_tree t) ≡ (name_given e (tree_at row.ALPHA (operands_text t)) >>= (λ name. Ok (Some name)))
named_of_file e t ok is =
    ap (λ (b : Bool). named_file e (operands_by (operands_text t) b)) is
    ∙ ap (λ (u : Trees). named_file e (In 1 u Done)) (file_tree (operands_text t) (is_fourth_after (receivers_text (operands_text t))) (file_here t ok is) refl)

pub named_of_disk : (e : Context) (t : Text) → is_phrase row.LIMITS t ≡ true → starts Atoms start.Alpha (operands_text t) ≡ false → named_file e (operands_tree t) ≡ Ok None
named_of_disk e t ok is =
    ap (λ (b : Bool). named_file e (operands_by (operands_text t) b)) is
    ∙ ap (λ (u : Trees). named_file e (In 0 u Done)) (disk_tree (operands_text t) (disk_here t ok is))

gives_by : (n : FourNumbers) (t : Text) (w : WorkState) (b : Bool) → is_phrase row.LIMITS t ≡ true → starts Atoms start.Alpha (operands_text t) ≡ b
    → gives_limits n (tree_at row.LIMITS t) w ≡ gives_operands n (operands_by (operands_text t) b) w
gives_by n t w b ok is =
    ap (λ (u : Trees). gives_limits n u w) (stands_of row.LIMITS limits_items t limits_row ok).1
    ∙ ap (λ (x : Bool). gives_operands n (operands_by (operands_text t) x) w) is

pub gives_to_file : (n : FourNumbers) (t : Text) (w : WorkState) → is_phrase row.LIMITS t ≡ true → starts Atoms start.Alpha (operands_text t) ≡ true
    → gives_limits n (tree_at row.LIMITS t) w ≡ gives_file n (receivers_in (after_name (tree_at row.FILE_LIMITS (operands_text t)))) w
gives_to_file n t w ok is = gives_by n t w true ok is

pub gives_to_disk : (n : FourNumbers) (t : Text) (w : WorkState) → is_phrase row.LIMITS t ≡ true → starts Atoms start.Alpha (operands_text t) ≡ false
    → gives_limits n (tree_at row.LIMITS t) w ≡ gives_each (numbers_of n) (receivers_in (tree_at row.DISK_LIMITS (operands_text t))) w
gives_to_disk n t w ok is = gives_by n t w false ok is
