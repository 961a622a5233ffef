-- Each platter that a document says has an image or blank sectors in range, and not both.
use Rattle.std.proofs.Common.{◌≡◌, ℕ, ℤ, pos, negsuc, true, List, Option, Some, None, IfSome, option_map, option_and_then, codes, refl, inl, inr}
use Rattle.std.specs.List.{list_all}
use Rattle.std.proofs.lemmas.Bool.{cases_Bool}
use Rattle.toml.specs.Data.{Data, Members, get_member, as_str, as_integer}
use Rattle.b2_boot.specs.declared.rows.Section.TheVariants as section
use Rattle.b2_boot.specs.declared.rows.PlatterRow.{PlatterRow}
use Rattle.b2_boot.specs.declared.rows.PrinterRow.{PrinterRow}
use Rattle.b2_boot.specs.declared.rows.TerminalRow.{TerminalRow}
use Rattle.b2_boot.specs.declared.rows.PartitionRow.{PartitionRow}
use Rattle.b2_boot.specs.Rows.{is_between, is_version, most_blank, ranged, version_of_key, all_known, sectors_of, text_of_key, only_of_key, platter_from, platter_row, terminal_said, partition_row, printer_row, rows_at, items_of_key, quota_of, number_of_key, rows_from, document_rows}
use Rattle.b2_boot.specs.Boots.{is_either}
use Rattle.b2_boot.proofs.SaidRows.{items_said}

-- a platter of a row has one source
abbrev HasSource : PlatterRow → Type 0
HasSource p = is_either p.image p.blank p.version ≡ true

abbrev HaveSources : List PlatterRow → Type 0
HaveSources ps = list_all (λ p. is_either p.image p.blank p.version) ps ≡ true

image_source : (address : List ℕ) (only : Option ℕ) (name : Option (List ℕ)) → IfSome (option_map (λ n. record { address = address; image = Some n; blank = None; only = only; version = None }) name) HasSource
image_source address only None = tt
image_source address only (Some name) = refl

sectors_source : (address : List ℕ) (only version : Option ℕ) (sectors : Option ℤ) → is_version version ≡ true
    → IfSome (option_map (λ n. record { address = address; image = None; blank = Some n; only = only; version = version }) (sectors_of version sectors)) HasSource
sectors_source address only version None known = tt
sectors_source address only version (Some (negsuc n)) known = tt
sectors_source address only version (Some (pos n)) known =
    elim (cases_Bool (is_between 16 (most_blank version) n)) [
      | inl within ↦ rw within (rw (known, within) refl)
      | inr outside ↦ rw outside tt
    ]

-- a version that is said is one
number_version : (n : Option ℤ) → IfSome (option_map (λ v. Some v) (option_and_then (ranged 1 2) n)) (λ v. is_version v ≡ true)
number_version None = tt
number_version (Some (negsuc n)) = tt
number_version (Some (pos n)) =
    elim (cases_Bool (is_between 1 2 n)) [
      | inl within ↦ rw within within
      | inr outside ↦ rw outside tt
    ]

said_version : (d : Option Data) → IfSome (version_of_key d) (λ v. is_version v ≡ true)
said_version None = refl
said_version (Some d) = number_version (as_integer d)

from_source : (address : Option (List ℕ)) (only version : Option (Option ℕ)) (image blank : Option Data) → IfSome version (λ v. is_version v ≡ true) → IfSome (platter_from address only version image blank) HasSource
from_source (Some address) (Some only) (Some None) (Some d) None known = image_source address only (as_str d)
from_source (Some address) (Some only) (Some (Some v)) (Some d) None known = tt
from_source (Some address) (Some only) (Some None) None (Some d) known = sectors_source address only None (as_integer d) known
from_source (Some address) (Some only) (Some (Some v)) None (Some d) known = sectors_source address only (Some v) (as_integer d) known
from_source (Some address) (Some only) (Some None) (Some d) (Some e) known = tt
from_source (Some address) (Some only) (Some (Some v)) (Some d) (Some e) known = tt
from_source (Some address) (Some only) (Some None) None None known = tt
from_source (Some address) (Some only) (Some (Some v)) None None known = tt
from_source (Some address) (Some only) None image blank known = tt
from_source (Some address) None version image blank known = tt
from_source None only version image blank known = tt

row_source : (ms : Members) → IfSome (platter_row ms) HasSource
row_source ms =
    elim (cases_Bool (all_known section.Platter ms)) [
      | inl known ↦ rw known (from_source (text_of_key (codes "address") ms) (only_of_key (get_member (codes "for") ms)) (version_of_key (get_member (codes "version") ms)) (get_member (codes "image") ms) (get_member (codes "blank") ms) (said_version (get_member (codes "version") ms)))
      | inr other ↦ rw other tt
    ]

all_sources : (quota : Option ℕ) (terminals : Option (List TerminalRow)) (partitions : Option (List PartitionRow)) (platters : Option (List PlatterRow)) (printers : Option (List PrinterRow)) → IfSome platters HaveSources
    → IfSome (rows_from quota terminals partitions platters printers) (λ b. HaveSources b.platters)
all_sources (Some q) (Some t) (Some p) (Some ps) (Some prs) have = have
all_sources (Some q) (Some t) (Some p) (Some ps) None have = tt
all_sources (Some q) (Some t) (Some p) None printers have = tt
all_sources (Some q) (Some t) None platters printers have = tt
all_sources (Some q) None partitions platters printers have = tt
all_sources None terminals partitions platters printers have = tt

pub document_sources : (ms : Members) → IfSome (document_rows ms) (λ b. HaveSources b.platters)
document_sources ms =
    elim (cases_Bool (all_known section.File ms)) [
      | inl known ↦ rw known
          (all_sources (quota_of (number_of_key (codes "quota") ms)) (rows_at terminal_said (codes "terminal") ms) (rows_at partition_row (codes "partition") ms) (rows_at platter_row (codes "platter") ms) (rows_at printer_row (codes "printer") ms) (items_said platter_row (λ p. is_either p.image p.blank p.version) row_source (items_of_key (get_member (codes "platter") ms))))
      | inr other ↦ rw other tt
    ]
