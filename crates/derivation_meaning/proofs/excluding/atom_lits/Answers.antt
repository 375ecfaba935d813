use Rattle.std.proofs.Common.{◌≤◌, ◌+◌, ◌-◌, ◌≡◌, ◌++◌, ◌∷◌, [], ◌∙◌, length, sym, ap₂, subst, arith}
use Rattle.std.specs.Int.{from_bool}
use Rattle.literals.specs.declared.lit.Lit.TheVariants.{Atom}
use Rattle.ground_model.specs.Answers.{has_atom}
use Rattle.derivation_meaning.proofs.ExcludingLemmas.{IsWalk, atoms_next, walk_start, walk_on, walk_tells}
use Rattle.derivation_meaning.proofs.excluding.atom_lits.Goals as goal

pub loop-at-init : goal.loop-at-init
loop-at-init c = record { lits = c.new-lits.ensures; walk = walk_start c.args.atoms.now c.requires.ascending; within = omega arith }

pub is_next-is_true-requires : goal.is_next-is_true-requires
is_next-is_true-requires c = let e : c.loop-at.at + 1 - 1 ≡ c.loop-at.at = omega arith in rw e c.loop-at.invariant.walk.above

pub loop-at-preserved : goal.loop-at-preserved
loop-at-preserved c =
    let walked =
    walk_on c.args.atoms.now c.loop-at.at c.loop-at.next c.is_next-is_true.result c.loop-at.invariant.walk c.loop-at.invariant.within
    c.is_next-is_true.ensures.there c.is_next-is_true.ensures.value in
    record {
      lits =
          c.in_ok-push.ensures.ok
          ∙ ap₂ (λ lits is_true. lits ++ Atom (c.loop-at.at + 1) is_true ∷ []) c.loop-at.invariant.lits
          (c.is_next-is_true.ensures.value ∙ walk_tells c.args.atoms.now c.loop-at.at c.loop-at.next c.loop-at.invariant.walk)
          ∙ sym (atoms_next (λ a. Atom a (has_atom c.args.atoms.now a)) c.loop-at.at);
      walk = subst (λ n. IsWalk c.args.atoms.now (c.loop-at.at + 1) (c.loop-at.next + n)) (sym c.from-next.ensures) walked.0;
      within = subst (λ n. c.loop-at.next + n ≤ length c.args.atoms.now) (sym c.from-next.ensures) walked.1;
    }
