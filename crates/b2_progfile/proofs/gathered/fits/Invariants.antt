use Rattle.std.proofs.Common.{◌≡◌, nat_le}
use Rattle.b2_text.specs.Program.{size_of}
use Rattle.b2_progfile.proofs.gathered.fits.Given as goal

-- the lines that are left fit into the room that is left where all fit into the area
abbrev pub invariant-loop-atoms : goal.invariant-loop-atoms
invariant-loop-atoms l = nat_le (size_of l.atoms-iterator) l.room ≡ nat_le (size_of l.lines.entries) l.area
