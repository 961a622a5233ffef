-- The sector that ends records.
use Rattle.std.specs.Prelude.{ℕ, List, ◌∷◌, replicate}
use Rattle.b2_record.specs.declared.end_sector.TheConstants.{END_MARK}

-- A0, and 00 to the end
abbrev pub end_mark : List ℕ
end_mark = END_MARK ∷ replicate 255 0
