-- What holds of both things between which a test chooses holds of the one that it chooses.
use Rattle.std.specs.Prelude.{Bool, true, false, if◌then◌else◌}

pub either : {A : Type 0} (F : A → Type 0) (b : Bool) (x y : A) → F x → F y → F (if b then x else y)
either F true x y h k = h
either F false x y h k = k
