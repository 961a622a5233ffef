use Rattle.b2_boot.proofs.FileBoots.{boots_of_files_are_good}
use Rattle.b2_boot.proofs.laws.law_a_boot_of_a_file_is_good.Goals as goal

pub returns : goal.returns
returns c = boots_of_files_are_good
