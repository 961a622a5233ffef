use Rattle.b2_disk_tests.proofs.catalogs.find_counted.Given as goal

abbrev pub ghosts-found : goal.ghosts-found
ghosts-found a = record { name = a.blank.name; parts = a.blank.parts }
