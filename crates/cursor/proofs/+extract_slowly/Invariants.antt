use Rattle.cursor.proofs.+extract_slowly.Given as goal

abbrev pub decreases-extract_slowly : goal.decreases-extract_slowly
decreases-extract_slowly l = l.n
