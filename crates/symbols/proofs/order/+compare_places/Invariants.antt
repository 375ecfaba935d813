use Rattle.symbols.proofs.order.+compare_places.Given as goal

abbrev pub decreases-compare_places : goal.decreases-compare_places
decreases-compare_places l = l.a
