use Rattle.std.proofs.Common.{◌≡◌, ◌++◌, ◌∷◌, length, take, drop}
use Rattle.theory_grammar.proofs.places.insert.Given as goal

abbrev pub invariant-loop-at : goal.invariant-loop-at
invariant-loop-at l = (length l.places ≡ length l.fn.places) × (take l.at l.places ++ l.carried ∷ drop l.at l.places ≡ take l.number l.fn.places ++ l.fn.place ∷ drop l.number l.fn.places)
