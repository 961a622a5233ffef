-- What taking devices and freeing them come to.
use Rattle.std.specs.Prelude.{◌≡◌, ℕ, Bool, true, false, List, [], ◌∷◌, Some, None, refl, if◌then◌else◌}
use Rattle.std.proofs.Common.{◌∙◌, inl}
use Rattle.b2_access.specs.declared.accesses.Answer.TheVariants as answer
use Rattle.b2_access.specs.declared.objects.Object.TheVariants as object
use Rattle.b2_access.specs.AccessRows.{frees, frees_if, is_held_by, takes}
use Rattle.b2_access.specs.AnswerKinds.{is_done}
use Rattle.b2_access.specs.Serving.{performs}
use Rattle.b2_access.specs.Sharing.{Gives}
use Rattle.b2_access.specs.Store.{StoreState, content, put}
use Rattle.b2_access.specs.Task.{wider}
use Rattle.b2_access.proofs.Holders.{also_first, performs_on, performs_same, wider_same}
use Rattle.b2_access.proofs.RowAnswers.{of_freeing, of_taking, tells_wider}
use Rattle.b2_store.specs.Holders.{all_held, own_among}

abbrev done : StoreState → Gives StoreState
done s = record { after = s; answer = answer.Done }

taken_on : (who : ℕ) (addrs : List (List ℕ)) (s w : StoreState) → performs_on (takes who addrs) s w ≡ done (all_held (Some who) addrs w)
taken_on who [] s w = refl
taken_on who (a ∷ addrs) s w =
    also_first (object.Hog a) (inl refl) (Some who) (wider (object.Hog a) (takes who addrs)) s w (tells_wider is_done (object.Hog a) (takes who addrs) (of_taking who addrs))
    ∙ wider_same (object.Hog a) (takes who addrs) s (put (object.Hog a) (Some who) w)
    ∙ taken_on who addrs s (put (object.Hog a) (Some who) w)

pub taken : (who : ℕ) (addrs : List (List ℕ)) (s : StoreState) → performs (takes who addrs) s ≡ done (all_held (Some who) addrs s)
taken who addrs s = performs_same (takes who addrs) s ∙ taken_on who addrs s s

freed_on : (who : ℕ) (addrs : List (List ℕ)) (s w : StoreState) → performs_on (frees who addrs) s w ≡ done (all_held None (own_among who addrs s) w)
freed_on who [] s w = refl
freed_on who (a ∷ addrs) s w = by (is_held_by who (content s (object.Hog a))) (λ v. wider_same (object.Hog a) (frees who addrs) s v ∙ freed_on who addrs s v)
  where
    by : (own : Bool) → ((v : StoreState) → performs_on (wider (object.Hog a) (frees who addrs)) s v ≡ done (all_held None (own_among who addrs s) v)) → performs_on (frees_if who own a addrs (wider (object.Hog a) (frees who addrs))) s w ≡ done (all_held None (if own then a ∷ own_among who addrs s else own_among who addrs s) w)
    by true rest =
        also_first (object.Hog a) (inl refl) None (wider (object.Hog a) (frees who addrs)) s w (tells_wider is_done (object.Hog a) (frees who addrs) (of_freeing who addrs))
        ∙ rest (put (object.Hog a) None w)
    by false rest = rest w

pub freed : (who : ℕ) (addrs : List (List ℕ)) (s : StoreState) → performs (frees who addrs) s ≡ done (all_held None (own_among who addrs s) s)
freed who addrs s = performs_same (frees who addrs) s ∙ freed_on who addrs s s
