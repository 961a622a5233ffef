-- Each partition that a document says has no quota of its own, or one in range.
use Rattle.std.proofs.Common.{◌≡◌, ℕ, ℤ, pos, negsuc, true, List, Option, Some, None, IfSome, option_map, option_and_then, codes, refl, inl, inr}
use Rattle.std.specs.List.{list_all}
use Rattle.std.proofs.lemmas.Bool.{cases_Bool}
use Rattle.toml.specs.Data.{Data, Members, get_member, as_integer}
use Rattle.b2_boot.specs.declared.rows.Section.TheVariants as section
use Rattle.b2_boot.specs.declared.rows.PlatterRow.{PlatterRow}
use Rattle.b2_boot.specs.declared.rows.PrinterRow.{PrinterRow}
use Rattle.b2_boot.specs.declared.rows.TerminalRow.{TerminalRow}
use Rattle.b2_boot.specs.declared.rows.PartitionRow.{PartitionRow}
use Rattle.b2_boot.specs.Rows.{is_between, is_quota, ranged, quota_of_key, with_quota, all_known, program_row, platter_row, terminal_said, partition_row, printer_row, rows_at, items_of_key, quota_of, number_of_key, rows_from, document_rows}
use Rattle.b2_boot.proofs.SaidRows.{items_said}

abbrev HasQuota : PartitionRow → Type 0
HasQuota p = is_quota p.quota ≡ true

abbrev HaveQuotas : List PartitionRow → Type 0
HaveQuotas ps = list_all (λ p. is_quota p.quota) ps ≡ true

number_quota : (n : Option ℤ) → IfSome (option_map (λ q. Some q) (option_and_then (ranged 1 1000) n)) (λ q. is_quota q ≡ true)
number_quota None = tt
number_quota (Some (negsuc n)) = tt
number_quota (Some (pos n)) =
    elim (cases_Bool (is_between 1 1000 n)) [
      | inl within ↦ rw within within
      | inr outside ↦ rw outside tt
    ]

said_quota : (d : Option Data) → IfSome (quota_of_key d) (λ q. is_quota q ≡ true)
said_quota None = refl
said_quota (Some d) = number_quota (as_integer d)

with_said : (quota : Option (Option ℕ)) (r : Option PartitionRow) → IfSome quota (λ q. is_quota q ≡ true) → IfSome (with_quota quota r) HasQuota
with_said (Some quota) (Some r) known = known
with_said (Some quota) None known = tt
with_said None r known = tt

row_quota : (ms : Members) → IfSome (partition_row ms) HasQuota
row_quota ms =
    elim (cases_Bool (all_known section.Partition ms)) [
      | inl known ↦ rw known (with_said (quota_of_key (get_member (codes "quota") ms)) (program_row ms) (said_quota (get_member (codes "quota") ms)))
      | inr other ↦ rw other tt
    ]

all_quotas : (quota : Option ℕ) (terminals : Option (List TerminalRow)) (partitions : Option (List PartitionRow)) (platters : Option (List PlatterRow)) (printers : Option (List PrinterRow)) → IfSome partitions HaveQuotas
    → IfSome (rows_from quota terminals partitions platters printers) (λ b. HaveQuotas b.partitions)
all_quotas (Some q) (Some t) (Some p) (Some ps) (Some prs) have = have
all_quotas (Some q) (Some t) (Some p) (Some ps) None have = tt
all_quotas (Some q) (Some t) (Some p) None printers have = tt
all_quotas (Some q) (Some t) None platters printers have = tt
all_quotas (Some q) None partitions platters printers have = tt
all_quotas None terminals partitions platters printers have = tt

pub document_quotas : (ms : Members) → IfSome (document_rows ms) (λ b. HaveQuotas b.partitions)
document_quotas ms =
    elim (cases_Bool (all_known section.File ms)) [
      | inl known ↦ rw known
          (all_quotas (quota_of (number_of_key (codes "quota") ms)) (rows_at terminal_said (codes "terminal") ms) (rows_at partition_row (codes "partition") ms) (rows_at platter_row (codes "platter") ms) (rows_at printer_row (codes "printer") ms) (items_said partition_row (λ p. is_quota p.quota) row_quota (items_of_key (get_member (codes "partition") ms))))
      | inr other ↦ rw other tt
    ]
