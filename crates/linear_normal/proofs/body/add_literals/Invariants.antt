use Rattle.std.proofs.Common.{◌≡◌, ◌++◌, map, drop, flat_map}
use Rattle.std.specs.List.{AllByRecursion}
use Rattle.literals.specs.Lits.{IsLit}
use Rattle.linear_normal.specs.Demands.{literal_demands}
use Rattle.linear_normal.specs.Numbering.{lit_of}
use Rattle.linear_normal.proofs.GrowthLemmas.{GivesLeft}
use Rattle.linear_normal.proofs.body.add_literals.Given as goal

abbrev pub invariant-loop-literal : goal.invariant-loop-literal
invariant-loop-literal l = record {
  literals : AllByRecursion IsLit l.lits.items;
  gives : GivesLeft l.fn.keys.keys l.keys.keys (flat_map (literal_demands l.variables) (drop l.literal-index l.body)) (flat_map (literal_demands l.variables) l.body)
      (λ later. l.lits.items ++ map (lit_of later l.variables) (drop l.literal-index l.body) ≡ map (lit_of later l.variables) l.body);
}
