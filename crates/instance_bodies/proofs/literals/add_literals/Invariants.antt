use Rattle.std.proofs.Common.{◌≡◌, ◌++◌, length, map, take}
use Rattle.symbols.specs.Table.{IsFront}
use Rattle.syntax_tree.specs.Outcome.{bound_in}
use Rattle.symbol_rules.specs.Reading.{literal_in, HasLiterals}
use Rattle.instance_bodies.proofs.AddLemmas.{all_atoms}
use Rattle.instance_bodies.proofs.literals.add_literals.Given as goal

abbrev pub invariant-loop-place : goal.invariant-loop-place
invariant-loop-place l = record {
  adds : map (literal_in l.symbols) l.found ≡ map (literal_in l.fn.symbols) l.fn.found ++ all_atoms (bound_in l.fn.symbols l.binding.values) (take l.place l.literals);
  known : HasLiterals (length l.symbols) l.found;
  kept : IsFront l.fn.symbols l.symbols;
}
