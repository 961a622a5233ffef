use Rattle.b2_disk_tests.proofs.catalogs.show_reads.Given as goal

abbrev pub ghosts-sectors_counted : goal.ghosts-sectors_counted
ghosts-sectors_counted a = record { name = a.blank.name; parts = a.blank.parts }
