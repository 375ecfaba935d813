use Rattle.std.proofs.Common.{◌≡◌, ◌≤◌, map, length}
use Rattle.std.specs.List.{range_with_len}
use Rattle.literals.specs.declared.lit.Lit.TheVariants.{Atom}
use Rattle.ground_model.specs.Answers.{has_atom}
use Rattle.derivation_meaning.proofs.ExcludingLemmas.{IsWalk}
use Rattle.derivation_meaning.proofs.excluding.atom_lits.Given as goal

abbrev pub invariant-loop-at : goal.invariant-loop-at
invariant-loop-at l = record {
  lits : l.lits ≡ map (λ a. Atom a (has_atom l.atoms a)) (range_with_len 1 l.at);
  walk : IsWalk l.atoms l.at l.next;
  within : l.next ≤ length l.atoms;
}
