use Rattle.b2_access.proofs.Leading.{holders_stay_present, names_lead_to_who_asks}
use Rattle.b2_access.proofs.laws.law_names_lead_to_who_asks.Goals as goal

pub returns : goal.returns
returns c = record { leads = names_lead_to_who_asks; present = holders_stay_present }
