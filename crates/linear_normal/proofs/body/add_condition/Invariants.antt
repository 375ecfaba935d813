use Rattle.std.proofs.Common.{◌≡◌, ◌++◌, ℕ, List, map, drop}
use Rattle.std.specs.List.{AllByRecursion}
use Rattle.literals.specs.Lits.{IsLit}
use Rattle.linear_normal.specs.Contents.{Content}
use Rattle.linear_normal.specs.Numbering.{lit_of}
use Rattle.linear_normal.proofs.body.add_condition.Given as goal

abbrev pub invariant-loop-literal : goal.invariant-loop-literal
invariant-loop-literal l = record {
  literals : AllByRecursion IsLit l.fn.lits.items → AllByRecursion IsLit l.lits.items;
  so_far : (later : List Content) (variables : ℕ) → l.lits.items ++ map (lit_of later variables) (drop l.literal-index l.condition) ≡ l.fn.lits.items ++ map (lit_of later variables) l.condition;
}
