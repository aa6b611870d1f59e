use Rattle.depot_path.proofs.+put_within.Given as goal

abbrev pub decreases-put_within : goal.decreases-put_within
decreases-put_within l = l.depth
