use Rattle.block_bench.proofs.main.Given as goal

abbrev pub ghosts-last_value : goal.ghosts-last_value
ghosts-last_value a = record { name = a.blank.name; parts = a.blank.parts }
