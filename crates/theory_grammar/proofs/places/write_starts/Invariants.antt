use Rattle.std.proofs.Common.{◌≡◌, ◌++◌, map, take}
use Rattle.theory_grammar.proofs.places.write_starts.Given as goal

abbrev pub invariant-loop-place : goal.invariant-loop-place
invariant-loop-place l = l.starts ≡ l.fn.starts ++ map (λ place. place.start) (take l.place-index l.places)
