-- Marks that are made for parts of a list, one part after another.
use Rattle.std.specs.Prelude.{◌≡◌, ℕ, List, [], ◌∷◌, ◌++◌, Option, Some, None, refl}
use Rattle.std.proofs.Common.{sym, ap, ◌∙◌}
use Rattle.b2_access.specs.Borrowers.{homes_marked}
use Rattle.b2_access.specs.declared.objects.Object.{Object}
use Rattle.b2_access.specs.declared.objects.Object.TheVariants as object
use Rattle.b2_access.specs.Loans.{globals_objects}
use Rattle.b2_access.specs.Reach.{borrows, device_objects, if_left, objects_held, to_free, to_take}
use Rattle.b2_audit.specs.Marks.{Marks, touch, touch_all, write, write_all}

pub touched_in_turn : (who : ℕ) (os ps : List Object) (m : Marks) → touch_all who (os ++ ps) m ≡ touch_all who ps (touch_all who os m)
touched_in_turn who [] ps m = refl
touched_in_turn who (o ∷ os) ps m = touched_in_turn who os ps (touch who o m)

pub written_in_turn : (who : ℕ) (os ps : List Object) (m : Marks) → write_all who (os ++ ps) m ≡ write_all who ps (write_all who os m)
written_in_turn who [] ps m = refl
written_in_turn who (o ∷ os) ps m = written_in_turn who os ps (write who o m)

-- devices that are taken or freed are reached by who holds each
pub taken_are_held : (addrs : List (List ℕ)) → device_objects (to_take addrs).devices ≡ objects_held addrs
taken_are_held [] = refl
taken_are_held (a ∷ addrs) = ap (λ (os : List Object). object.Hog a ∷ os) (taken_are_held addrs)

pub freed_are_held : (addrs : List (List ℕ)) → device_objects (to_free addrs).devices ≡ objects_held addrs
freed_are_held [] = refl
freed_are_held (a ∷ addrs) = ap (λ (os : List Object). object.Hog a ∷ os) (freed_are_held addrs)

-- who stands inside a text that is left, and inside those that are given back
left_first : (left : Option ℕ) (homes : List ℕ) → borrows (if_left left ++ homes) ≡ borrows (if_left left) ++ borrows homes
left_first None homes = refl
left_first (Some home) homes = refl

pub borrows_in_parts : (who : ℕ) (left : Option ℕ) (homes : List ℕ) (m one two : Marks) → one ≡ touch_all who (borrows (if_left left)) m → two ≡ touch_all who (borrows homes) one → two ≡ touch_all who (borrows (if_left left ++ homes)) m
borrows_in_parts who left homes m one two first last =
    last ∙ ap (touch_all who (borrows homes)) first ∙ sym (touched_in_turn who (borrows (if_left left)) (borrows homes) m) ∙ ap (λ (os : List Object). touch_all who os m) (sym (left_first left homes))

pub borrows_in_parts_written : (who : ℕ) (left : Option ℕ) (homes : List ℕ) (m one two : Marks) → one ≡ write_all who (borrows (if_left left)) m → two ≡ write_all who (borrows homes) one → two ≡ write_all who (borrows (if_left left ++ homes)) m
borrows_in_parts_written who left homes m one two first last =
    last ∙ ap (write_all who (borrows homes)) first ∙ sym (written_in_turn who (borrows (if_left left)) (borrows homes) m) ∙ ap (λ (os : List Object). write_all who os m) (sym (left_first left homes))

-- a mask without bits marks nobody
pub none_marked : (homes : ℕ) → homes ≡ 0 → homes_marked homes ≡ []
none_marked homes is = ap homes_marked is

-- one part, and then the rest
then_touched : (who : ℕ) (os ps : List Object) (m n : Marks) → n ≡ touch_all who os m → touch_all who ps n ≡ touch_all who (os ++ ps) m
then_touched who os ps m n is = ap (touch_all who ps) is ∙ sym (touched_in_turn who os ps m)

then_written : (who : ℕ) (os ps : List Object) (m n : Marks) → n ≡ write_all who os m → write_all who ps n ≡ write_all who (os ++ ps) m
then_written who os ps m n is = ap (write_all who ps) is ∙ sym (written_in_turn who os ps m)

-- the texts that are lent, the name by which `@` variables are asked for, and those of whom they are
pub lent_in_parts : (who home : ℕ) (names : List Object) (x y : Option ℕ) (m one two three four : Marks)
    → one ≡ touch who (object.Text who) m → two ≡ touch who (object.Text home) one → three ≡ touch_all who names two → x ≡ y → four ≡ touch_all who (globals_objects x) three
    → four ≡ touch_all who (object.Text who ∷ object.Text home ∷ (names ++ globals_objects y)) m
lent_in_parts who home names x y m one two three four own at_home named is last =
    last
    ∙ ap (λ (z : Option ℕ). touch_all who (globals_objects z) three) is
    ∙ then_touched who names (globals_objects y) two three named
    ∙ ap (touch_all who (names ++ globals_objects y)) (at_home ∙ ap (touch who (object.Text home)) own)

-- seven parts
pub touched_in_parts : (who : ℕ) (os ps qs rs ts us vs : List Object) (m one two three four five six seven : Marks)
    → one ≡ touch_all who os m → two ≡ touch_all who ps one → three ≡ touch_all who qs two → four ≡ touch_all who rs three → five ≡ touch_all who ts four → six ≡ touch_all who us five → seven ≡ touch_all who vs six
    → seven ≡ touch_all who (os ++ (ps ++ (qs ++ (rs ++ (ts ++ (us ++ vs)))))) m
touched_in_parts who os ps qs rs ts us vs m one two three four five six seven first second third fourth fifth sixth last =
    last
    ∙ then_touched who us vs five six sixth
    ∙ then_touched who ts (us ++ vs) four five fifth
    ∙ then_touched who rs (ts ++ (us ++ vs)) three four fourth
    ∙ then_touched who qs (rs ++ (ts ++ (us ++ vs))) two three third
    ∙ then_touched who ps (qs ++ (rs ++ (ts ++ (us ++ vs)))) one two second
    ∙ then_touched who os (ps ++ (qs ++ (rs ++ (ts ++ (us ++ vs))))) m one first

-- the first five of which are written beside devices
pub written_in_parts : (who : ℕ) (os ps qs rs ts us vs : List Object) (m one two three four five six seven : Marks)
    → one ≡ write_all who os m → two ≡ write_all who ps one → three ≡ write_all who qs two → four ≡ write_all who rs three → five ≡ write_all who ts four → six ≡ write_all who us five → seven ≡ write_all who vs six
    → seven ≡ write_all who ((os ++ (ps ++ (qs ++ (rs ++ ts)))) ++ (us ++ vs)) m
written_in_parts who os ps qs rs ts us vs m one two three four five six seven first second third fourth fifth sixth last =
    let beside : five ≡ write_all who (os ++ (ps ++ (qs ++ (rs ++ ts)))) m =
    fifth
    ∙ then_written who rs ts three four fourth
    ∙ then_written who qs (rs ++ ts) two three third
    ∙ then_written who ps (qs ++ (rs ++ ts)) one two second
    ∙ then_written who os (ps ++ (qs ++ (rs ++ ts))) m one first
    in
    last ∙ then_written who us vs five six sixth ∙ then_written who (os ++ (ps ++ (qs ++ (rs ++ ts)))) (us ++ vs) m five beside
