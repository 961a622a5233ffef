-- What holds of an answer where another thing does.
use Rattle.std.specs.Prelude.{IfOk, OnOk, Result, Ok, Err}

pub ok_map : {A E : Type 0} (r : Result A E) (P Q : A → Type 0) → ((x : A) → P x → Q x) → IfOk r P → IfOk r Q
ok_map (Ok x) P Q f h = f x h
ok_map (Err e) P Q f h = h

pub on_ok : {A E : Type 0} (r : Result A E) (P : A → Type 0) (Q : Type 0) → ((x : A) → P x → Q) → IfOk r P → OnOk r Q
on_ok (Ok x) P Q f h = f x h
on_ok (Err e) P Q f h = h

-- where it is an answer at all
pub on_map : {A E : Type 0} (r : Result A E) (P Q : Type 0) → (P → Q) → OnOk r P → OnOk r Q
on_map (Ok x) P Q f h = f h
on_map (Err e) P Q f h = h

pub on_any : {A E : Type 0} (r : Result A E) (P : Type 0) → P → OnOk r P
on_any (Ok x) P h = h
on_any (Err e) P h = tt

-- two things, of which one says nothing of the answer
pub ok_both : {A E : Type 0} (r : Result A E) (P Q : A → Type 0) (R : Type 0) → ((x : A) → P x → R → Q x) → IfOk r P → OnOk r R → IfOk r Q
ok_both (Ok x) P Q R f h k = f x h k
ok_both (Err e) P Q R f h k = h
