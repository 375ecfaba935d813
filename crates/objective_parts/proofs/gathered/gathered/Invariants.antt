use Rattle.std.proofs.Common.{◌≡◌}
use Rattle.syntax_tree.specs.declared.literal.TheoryName.TheVariants as name
use Rattle.directed_tuples.specs.Tuples.{tuples_of}
use Rattle.objective_parts.proofs.gathered.gathered.Given as goal

abbrev pub invariant-loop-directive : goal.invariant-loop-directive
invariant-loop-directive l = record {
  smaller : l.smaller ≡ tuples_of name.Minimize l.yielded;
  larger : l.larger ≡ tuples_of name.Maximize l.yielded;
  shown : l.shown ≡ tuples_of name.Show l.yielded;
}
