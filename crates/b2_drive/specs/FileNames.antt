-- The name of a file on a disk: all bytes that an alpha expression yields.
use Rattle.std.specs.Prelude.{ℕ, List, Result}
use Rattle.b2_base.specs.Names.{name8_of}
use Rattle.b2_base.specs.declared.codes.TheConstants.{D87_FILE_NAME}
use Rattle.b2_atom.specs.Tree.{Trees}
use Rattle.b2_expr.specs.Answers.{◌>>=◌, or_code}
use Rattle.b2_expr.specs.Scope.{Context}
use Rattle.b2_expr.specs.Value.{text}

-- one to eight bytes that can be shown, the first no blank; else D87
abbrev pub file_name : List ℕ → Result (List ℕ) ℕ
file_name bytes = or_code D87_FILE_NAME (name8_of bytes)

abbrev pub name_given : Context → Trees → Result (List ℕ) ℕ
name_given e t = text e t >>= file_name
