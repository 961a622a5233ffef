use Rattle.b2_stmt_file.proofs.SavedNumbers.{saved_numbers_are_numbers}
use Rattle.b2_stmt_file.proofs.laws.saved_numbers_are_numbers.Goals as goal

pub returns : goal.returns
returns c = saved_numbers_are_numbers
