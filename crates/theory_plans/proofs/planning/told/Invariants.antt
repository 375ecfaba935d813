use Rattle.std.proofs.Common.{◌≡◌, map, take, IsTrue}
use Rattle.std.specs.List.{AllByRecursion, flat_map}
use Rattle.syntax_tree.specs.Literals.{is_theory_atom}
use Rattle.program_meaning.specs.Read.{literal_read, theory_read}
use Rattle.program_meaning.specs.Tuples.{told_in}
use Rattle.theory_plans.proofs.planning.told.Given as goal

-- the theory atoms of the literals so far
abbrev pub invariant-loop-literal : goal.invariant-loop-literal
invariant-loop-literal l = record {
  read : map (λ theory. theory_read theory.now) l.found ≡ flat_map told_in (map literal_read (take l.literal-index l.body));
  trees : AllByRecursion (λ theory. IsTrue (is_theory_atom theory.now)) l.found;
}
