use Rattle.depot_parts.proofs.seek.+short.Given as goal

abbrev pub decreases-short : goal.decreases-short
decreases-short l = l.depth
