use Rattle.std.proofs.Common.{◌≡◌, ℕ, Option, Some, None, subst, refl, ap, ◌∙◌}
use Rattle.std.specs.Prelude.{if◌then◌else◌}
use Rattle.b2_access.specs.Loans.{globals_of, lender_at}
use Rattle.b2_vars.specs.Globals.{unreached}
use Rattle.b2_store.specs.Meaning.{store_of}
use Rattle.b2_store.specs.Spares.{GlobalsRows, rows_left}
use Rattle.b2_store.proofs.Loans.{lent_is_found, rows_are_left}
use Rattle.b2_store.proofs.stores.StoresShared.lend.Goals as goal

pub returns : goal.returns
returns c =
    let s = c.args.self.now in
    let lender = lender_at c.args.home c.args.at.now (store_of s) in
    let lender_is : c.lender-lender.result ≡ lender = c.lender-lender.ensures in (
      (
        refl,
        λ w. ap (λ (rows : GlobalsRows). record s { globals = rows }) (ap (λ (x : Option ℕ). rows_left x s.globals w) lender_is ∙ rows_are_left lender (store_of s) w),
      ),
      record {
        writes_back = tt;
        own = c.value.ensures;
        home = c.value-2.ensures;
        globals = ap unreached (subst (λ (x : Option ℕ). (if c.has-found.result then Some c.lend.result.now else None) ≡ globals_of x (store_of s)) lender_is
            (lent_is_found c.lender-lender.result (store_of s) c.has-found.result c.lend.result.now c.has-found.ensures c.lend.ensures.there));
      },
    )
