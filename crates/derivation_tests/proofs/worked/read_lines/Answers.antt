use Rattle.std.proofs.Common.{◌∷◌, [], sym, subst}
use Rattle.std.specs.List.{All}
use Rattle.std.proofs.lemmas.List.Elements.{All-append, All-from_recursion}
use Rattle.literals.specs.Nogoods.{IsNogood}
use Rattle.derivation.specs.Lists.{lits_of}
use Rattle.derivation_tests.proofs.worked.read_lines.Goals as goal

pub loop-text-preserved : goal.loop-text-preserved
loop-text-preserved c =
    subst (All (λ line. IsNogood (lits_of line))) (sym c.in_ok-push-in-Ok.ensures.ok)
    (All-append (λ line. IsNogood (lits_of line)) c.loop-text.lines (c.in-Ok.line ∷ []) c.loop-text.invariant
    (All-from_recursion (λ line. IsNogood (lits_of line)) (c.in-Ok.line ∷ []) (c.in-Ok.ensures.nogood, tt)))
