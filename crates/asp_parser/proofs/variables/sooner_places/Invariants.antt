use Rattle.std.proofs.Common.{◌≡◌, map, drop}
use Rattle.grammar.specs.Check.{first_of, bad_terms}
use Rattle.asp_parser.proofs.variables.sooner_places.Given as goal

abbrev pub invariant-loop-place : goal.invariant-loop-place
invariant-loop-place l = first_of l.first (bad_terms (map (λ place. place.at) (drop l.place-index l.places))) ≡ first_of l.fn.so_far (bad_terms (map (λ place. place.at) l.places))
