use Rattle.std.proofs.Common.{◌≡◌, ◌<◌, ◌++◌, drop, length}
use Rattle.std.specs.List.{AllByRecursion}
use Rattle.numbered_rules.specs.inner.ByNumber.{atoms_by}
use Rattle.numbered_rules.proofs.rules.atoms_of.Given as goal

abbrev pub invariant-loop-literal : goal.invariant-loop-literal
invariant-loop-literal l = record {
  so_far : l.made ++ atoms_by l.atoms (drop l.literal-index l.literals) ≡ atoms_by l.atoms l.literals;
  left : AllByRecursion (λ literal. literal.0 < length l.atoms) (drop l.literal-index l.literals);
}
