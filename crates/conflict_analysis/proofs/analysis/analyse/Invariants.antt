use Rattle.conflict_analysis.proofs.analysis.analyse.Given as goal

abbrev pub ghost-resolve_from : goal.ghost-resolve_from
ghost-resolve_from a = a.start.now
