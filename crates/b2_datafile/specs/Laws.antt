-- Where a record is saved, and where a file is ended.
use Rattle.std.specs.Prelude.{◌≡◌, ℕ, ◌+◌, ◌<◌, ◌≤◌, List, length, Some}
use Rattle.std.specs.FinMap.{get}
use Rattle.b2_dec.specs.declared.values.Value.{Value}
use Rattle.b2_platter.specs.Checks.{IsGood}
use Rattle.b2_catalog.specs.declared.entry.Entry.{Entry}
use Rattle.b2_catalog.specs.Catalogue.{catalogue}
use Rattle.b2_record.specs.Records.{Spells}
use Rattle.b2_record.specs.Writing.{record_of}

-- a record has its place in a file of a good image, before the file's control sector
pub record SavesAt (image : List ℕ) (e : Entry) (pos : ℕ) (values : List Value) : Type 0 where
  pub good : IsGood image
  pub file : get (catalogue image) e.name ≡ Some e
  pub record_is : Spells values (record_of values)
  pub low : e.start ≤ pos
  pub high : pos + length (record_of values) ≤ e.end

-- a place of a file of a good image, before the file's control sector
pub record EndsAt (image : List ℕ) (e : Entry) (pos : ℕ) : Type 0 where
  pub good : IsGood image
  pub file : get (catalogue image) e.name ≡ Some e
  pub low : e.start ≤ pos
  pub high : pos < e.end
