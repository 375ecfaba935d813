-- The definitions on small programs, by computing.
use Rattle.std.proofs.Common.{◌≡◌, ℕ, true, false, List, [], ◌∷◌, ◌++◌, map, refl}
use Rattle.std.specs.List.{flat_map, range_with_len}
use Rattle.literals.specs.declared.lit.Lit.{Lit}
use Rattle.literals.specs.declared.lit.Lit.TheVariants as l
use Rattle.ground_model.specs.declared.rule.BodyLit.{BodyLit}
use Rattle.ground_model.specs.declared.rule.BodyLit.TheVariants as b
use Rattle.ground_model.specs.declared.rule.GroundHead.{GroundHead}
use Rattle.ground_model.specs.declared.rule.GroundHead.TheVariants as h
use Rattle.ground_model.specs.declared.rule.GroundRule.{GroundRule}
use Rattle.linear_normal.specs.Bodies.{placed}
use Rattle.linear_normal.specs.Numbering.{numbered_by}
use Rattle.completion.specs.Inputs.{rule_nogoods, atom_nogood}

abbrev rule : GroundHead → List BodyLit → GroundRule
rule head body = record { body = body; head = head }

abbrev nogoods : ℕ → List GroundRule → List (List Lit)
nogoods atoms rules =
    flat_map (rule_nogoods [] atoms 0) (placed 1 rules) ++ map (atom_nogood (numbered_by atoms 0 rules [] []).supports) (range_with_len 1 atoms)

-- a :- not b. b :- not a.
negation : nogoods 2 (rule (h.Atom 1) (b.Atom 2 false ∷ []) ∷ rule (h.Atom 2) (b.Atom 1 false ∷ []) ∷ []) ≡
    (l.Atom 2 false ∷ l.Body 1 false ∷ [])
    ∷ (l.Atom 2 true ∷ l.Body 1 true ∷ [])
    ∷ (l.Atom 1 false ∷ l.Body 1 true ∷ [])
    ∷ (l.Atom 1 false ∷ l.Body 2 false ∷ [])
    ∷ (l.Atom 1 true ∷ l.Body 2 true ∷ [])
    ∷ (l.Atom 2 false ∷ l.Body 2 true ∷ [])
    ∷ (l.Atom 1 true ∷ l.Body 1 false ∷ [])
    ∷ (l.Atom 2 true ∷ l.Body 2 false ∷ [])
    ∷ []
negation = refl

-- a :- not a.
contradiction : nogoods 1 (rule (h.Atom 1) (b.Atom 1 false ∷ []) ∷ []) ≡
    (l.Atom 1 false ∷ l.Body 1 false ∷ [])
    ∷ (l.Atom 1 true ∷ l.Body 1 true ∷ [])
    ∷ (l.Atom 1 false ∷ l.Body 1 true ∷ [])
    ∷ (l.Atom 1 true ∷ l.Body 1 false ∷ [])
    ∷ []
contradiction = refl
