use Rattle.std.proofs.Common.{◌≡◌, ℕ, Option, Some, None, IsSome, subst, sym, refl, ap, ◌∙◌}
use Rattle.std.specs.Prelude.{if◌then◌else◌}
use Rattle.b2_access.specs.Loans.{globals_of, lender_at}
use Rattle.b2_vars.specs.Globals.{unreached}
use Rattle.b2_store.specs.Plain.{plain_store}
use Rattle.b2_access.specs.declared.objects.Object.TheVariants as object
use Rattle.b2_store.specs.KeptLaws.{found}
use Rattle.b2_store.specs.Spares.{GlobalsRows, rows_left}
use Rattle.b2_store.proofs.Loans.{lent_is_found, rows_are_left}
use Rattle.b2_store.proofs.plain.PlainStoresShared.lend.Goals as goal

pub returns : goal.returns
returns c =
    let s = c.args.self.now in
    let lender = lender_at c.args.home c.args.at.now (plain_store s) in
    let lender_is : c.lender-lender.result ≡ lender = c.lender-lender.ensures in (
      (
        refl,
        λ w. ap (λ (rows : GlobalsRows). record s { globals = rows }) (ap (λ (x : Option ℕ). rows_left x s.globals w) lender_is ∙ rows_are_left lender (plain_store s) w),
      ),
      record {
        writes_back = tt;
        own = c.text_value.ensures ∙ found (object.Text c.args.who) s.kept;
        home = c.text_value-2.ensures ∙ found (object.Text c.args.home) s.kept;
        globals = ap unreached (subst (λ (x : Option ℕ). (if c.has-found.result then Some c.lend.result.now else None) ≡ globals_of x (plain_store s)) lender_is
            (lent_is_found c.lender-lender.result (plain_store s) c.has-found.result c.lend.result.now c.has-found.ensures c.lend.ensures.there));
      },
    )

pub text_value-requires : goal.text_value-requires
text_value-requires c = subst (λ (o : _). IsSome o) (sym (found (object.Text c.args.who) c.args.self.now.kept)) c.requires.own

pub text_value-requires-2 : goal.text_value-requires-2
text_value-requires-2 c = subst (λ (o : _). IsSome o) (sym (found (object.Text c.args.home) c.args.self.now.kept)) c.requires.home
