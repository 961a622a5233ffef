use Rattle.b2_access.proofs.Leading.{answers_lead_to_holders, answers_lead_to_who_is_present}
use Rattle.b2_access.proofs.laws.law_answers_lead_to_holders.Goals as goal

pub returns : goal.returns
returns c = record { leads = answers_lead_to_holders; present = answers_lead_to_who_is_present }
