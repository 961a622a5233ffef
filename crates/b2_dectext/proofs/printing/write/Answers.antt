use Rattle.std.proofs.Common.{[], ◌∷◌, ◌++◌, refl, ap, ◌∙◌, zero-add, rules}
use Rattle.b2_dectext.specs.Printed.{IsPut, printed, shown_size, sign_shown}
use Rattle.b2_dectext.proofs.Putting.{IsPut-append}
use Rattle.b2_dectext.proofs.printing.write.Goals as goal

pub returns : goal.returns
unfolding printed
returns c =
    let signed = IsPut-append ((sign_shown c.args.a.neg ∷ []) ++ shown_size c.args.a) _ _ _ _ _ _ _ _
    (ap (λ b. (b ∷ []) ++ shown_size c.args.a) c.sign_of.ensures) c.put-signed.ensures c.put_size-shown.ensures.text in
    let all : IsPut (printed c.args.a) 0 c.args.into.now c.put.new.into c.put.result = IsPut-append (printed c.args.a) _ _ _ _ _ _ _ _ refl signed c.put.ensures in
    record { form = all.front; len = all.len ∙ zero-add _; bound = search rules; rest = all.rest }
