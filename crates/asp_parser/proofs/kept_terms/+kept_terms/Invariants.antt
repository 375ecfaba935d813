use Rattle.std.proofs.Common.{◌≡◌, map, take}
use Rattle.asp_parser.specs.Replacement as spec
use Rattle.asp_parser.proofs.kept_terms.+kept_terms.Given as goal

abbrev pub invariant-are_kept-loop-term : goal.invariant-are_kept-loop-term
invariant-are_kept-loop-term l = map (spec.replaced l.constants) (take l.term-index l.terms) ≡ take l.term-index l.terms

abbrev pub invariant-are_parts_kept-loop-part : goal.invariant-are_parts_kept-loop-part
invariant-are_parts_kept-loop-part l = map (spec.replaced_part l.constants) (take l.part-index l.parts) ≡ take l.part-index l.parts
