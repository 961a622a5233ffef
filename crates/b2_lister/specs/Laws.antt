-- The laws of listed lines.
use Rattle.std.specs.Prelude.{◌≡◌, ◌≤◌, ◌∷◌, ◌++◌, ℕ, Ok, length, false}
use Rattle.b2_base.specs.Byte as byte
use Rattle.b2_atom.specs.Words.{Text}
use Rattle.b2_atom.specs.Tokens.{listed}
use Rattle.b2_atom.specs.Tree.{Trees, atoms, tokens}
use Rattle.b2_atom.specs.Fitting.{LineTree}
use Rattle.b2_atom.specs.declared.words.Origin.TheVariants as origin
use Rattle.b2_syntax.specs.Reading.{reads}
use Rattle.b2_syntax.specs.declared.Entered.TheVariants.{Numbered}
use Rattle.b2_lister.specs.Listing.{listing, decimal}

-- each typed line that is read as a line of a program is, once it is listed, read as the same number and the same atoms
abbrev pub EachListedLineIsReadBack : Type 0
EachListedLineIsReadBack = (typed : Text) (number : ℕ) (line : Text) → reads typed ≡ Ok (Numbered number line) → reads (listing number line) ≡ Ok (Numbered number line)

-- the listing of a tree is the number, a blank and the tree's canonical source, and is read as the number and the tree's
-- atoms
pub record IsListedAndReadBack (t : Trees) (number : ℕ) : Type 0 where
  pub shown : listing number (atoms t) ≡ decimal number ++ byte.blank ∷ listed false false (tokens t)
  pub back : reads (listing number (atoms t)) ≡ Ok (Numbered number (atoms t))

-- so it is for each tree that a line of a program allows, of at most 255 atom bytes, and each number to 9999
abbrev pub EachTreeIsListedAndReadBack : Type 0
EachTreeIsListedAndReadBack = (t : Trees) (number : ℕ) → LineTree origin.Program t → length (atoms t) ≤ 255 → number ≤ 9999 → IsListedAndReadBack t number
