-- The boot of a file that passes its checks is good.
use Rattle.std.proofs.Common.{◌≡◌, ℕ, true, List, Option, Some, None, IfSome, Ok, codes, refl, sym, subst, inl, inr}
use Rattle.std.specs.List.{list_all}
use Rattle.std.proofs.lemmas.Bool.{cases_Bool}
use Rattle.toml.specs.Data.{Members}
use Rattle.b2_boot.specs.declared.rows.Section.TheVariants as section
use Rattle.b2_boot.specs.declared.rows.PlatterRow.{PlatterRow}
use Rattle.b2_boot.specs.declared.rows.PrinterRow.{PrinterRow}
use Rattle.b2_boot.specs.declared.rows.TerminalRow.{TerminalRow}
use Rattle.b2_boot.specs.declared.rows.PartitionRow.{PartitionRow}
use Rattle.b2_boot.specs.Rows.{RowsState, all_known, document_of, is_between, is_quota, quota_of, number_of_key, terminal_said, partition_row, platter_row, printer_row, rows_at, rows_from, document_rows}
use Rattle.b2_boot.specs.Boots.{BootState, IsGood, boot_by_document, boot_by_rows, boot_from, check_of_rows, is_either, partitions_by_number, terminals_by_number, unless_failed}
use Rattle.b2_boot.specs.Laws.{BootsOfFilesAreGood}
use Rattle.b2_boot.proofs.OwnQuotas.{document_quotas}
use Rattle.b2_boot.proofs.ChecksHeld.{good_boot, passed}
use Rattle.b2_boot.proofs.Sources.{document_sources}

-- a quota that a document says is in range
abbrev HasQuota : RowsState → Type 0
HasQuota b = is_between 1 1000 b.quota ≡ true

-- and so is each that a partition has of its own
abbrev HaveQuotas : RowsState → Type 0
HaveQuotas b = list_all (λ p. is_quota p.quota) b.partitions ≡ true

quota_within : (quota : Option ℕ) → IfSome (quota_of quota) (λ n. is_between 1 1000 n ≡ true)
quota_within None = tt
quota_within (Some n) =
    elim (cases_Bool (is_between 1 1000 n)) [
      | inl within ↦ rw within within
      | inr outside ↦ rw outside tt
    ]

rows_quota : (quota : Option ℕ) (terminals : Option (List TerminalRow)) (partitions : Option (List PartitionRow)) (platters : Option (List PlatterRow)) (printers : Option (List PrinterRow))
    → IfSome quota (λ n. is_between 1 1000 n ≡ true) → IfSome (rows_from quota terminals partitions platters printers) HasQuota
rows_quota (Some q) (Some t) (Some p) (Some ps) (Some prs) h = h
rows_quota (Some q) (Some t) (Some p) (Some ps) None h = tt
rows_quota (Some q) (Some t) (Some p) None printers h = tt
rows_quota (Some q) (Some t) None platters printers h = tt
rows_quota (Some q) None partitions platters printers h = tt
rows_quota None terminals partitions platters printers h = tt

document_quota : (ms : Members) → IfSome (document_rows ms) HasQuota
document_quota ms =
    elim (cases_Bool (all_known section.File ms)) [
      | inl known ↦ rw known
          (rows_quota (quota_of (number_of_key (codes "quota") ms)) (rows_at terminal_said (codes "terminal") ms) (rows_at partition_row (codes "partition") ms) (rows_at platter_row (codes "platter") ms) (rows_at printer_row (codes "printer") ms) (quota_within (number_of_key (codes "quota") ms)))
      | inr other ↦ rw other tt
    ]

-- rows that pass
by_check : (rows : RowsState) (b : BootState) (check : Option ℕ) → check_of_rows rows ≡ check → HasQuota rows → HaveQuotas rows → list_all (λ p. is_either p.image p.blank p.version) rows.platters ≡ true
    → unless_failed check (boot_from rows) ≡ Ok b → IsGood b
by_check rows b None is quota quotas sources h =
    let all = passed rows (terminals_by_number rows.terminals) (partitions_by_number rows.partitions) (sym is) in
    let same : boot_from rows ≡ b = cc in
    subst IsGood same (good_boot rows quota quotas sources all.0.counted all.1)
by_check rows b (Some check) is quota quotas sources h = cc

by_rows : (found : Option RowsState) (b : BootState) → IfSome found HasQuota → IfSome found HaveQuotas → IfSome found (λ rows. list_all (λ p. is_either p.image p.blank p.version) rows.platters ≡ true) → boot_by_rows found ≡ Ok b → IsGood b
by_rows None b quota quotas sources h = cc
by_rows (Some rows) b quota quotas sources h = by_check rows b (check_of_rows rows) refl quota quotas sources h

by_document : (document : Option Members) (b : BootState) → boot_by_document document ≡ Ok b → IsGood b
by_document None b h = cc
by_document (Some ms) b h = by_rows (document_rows ms) b (document_quota ms) (document_quotas ms) (document_sources ms) h

pub boots_of_files_are_good : BootsOfFilesAreGood
boots_of_files_are_good bytes b h = by_document (document_of bytes) b h
