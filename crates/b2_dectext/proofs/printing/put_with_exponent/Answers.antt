use Rattle.std.proofs.Common.{[], ◌∷◌, ◌++◌, refl, ap, take, drop, append_assoc}
use Rattle.b2_dectext.specs.Printed.{nine_digits, exponent_shown}
use Rattle.b2_dectext.proofs.Putting.{IsPut-append}
use Rattle.b2_dectext.proofs.printing.put_with_exponent.Goals as goal

pub returns-clause-text : goal.returns-clause-text
unfolding nine_digits
returns-clause-text c =
    let ds = c.args.digits.now in
    let nine = IsPut-append (nine_digits ds) _ _ _ _ _ _ _ _ (append_assoc (take 1 ds) (46 ∷ []) (take 8 (drop 1 ds)))
    (IsPut-append (take 1 ds ++ (46 ∷ [])) _ _ _ _ _ _ _ _ refl c.put-pointed.ensures c.put-after.ensures) c.put-end.ensures in
    IsPut-append (nine_digits ds ++ exponent_shown c.args.place) _ _ _ _ _ _ _ _ (ap (λ t. nine_digits ds ++ t) c.exponent_at.ensures) nine c.put.ensures
