use Rattle.conflict_analysis.proofs.analysis.resolve_from.Given as goal

abbrev pub ghost-resolve_all : goal.ghost-resolve_all
ghost-resolve_all g a = g.first
