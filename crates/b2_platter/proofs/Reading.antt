-- Why nothing is read, from why nothing of another kind is.
use Rattle.std.proofs.Common.{Result, Ok, Err, IfErr}
use Rattle.b2_base.specs.declared.codes.Fault.{Fault}
use Rattle.b2_base.specs.declared.codes.Fault.TheVariants as fault
use Rattle.b2_platter.specs.Reading.{Unspelled}

pub unspelled-more : {A B : Type 0} (f : Fault) → (A → B) → Unspelled A f → Unspelled B f
unspelled-more (fault.Code code) more h = (h.0, more h.1)
unspelled-more fault.NoMemory more h = tt

pub unspelled-mapped : {X A B : Type 0} (r : Result X Fault) → (A → B) → IfErr r (Unspelled A) → IfErr r (Unspelled B)
unspelled-mapped (Ok x) more h = tt
unspelled-mapped (Err f) more h = unspelled-more f more h
