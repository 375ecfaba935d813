-- Programs of facts and definite rules.
use Rattle.std.specs.Prelude.{Bool, true, false, not, ◌&&◌, ◌==◌, length}
use Rattle.std.specs.List.{list_all}
use Rattle.ground_model.specs.declared.rule.BodyLit.{BodyLit}
use Rattle.ground_model.specs.declared.rule.BodyLit.TheVariants as b
use Rattle.ground_model.specs.declared.rule.GroundHead.{GroundHead}
use Rattle.ground_model.specs.declared.rule.GroundHead.TheVariants as h
use Rattle.ground_model.specs.declared.rule.GroundRule.{GroundRule}
use Rattle.ground_model.specs.declared.program.GroundProgram.{GroundProgram}

-- a positive atom
abbrev pub is_positive : BodyLit → Bool
is_positive (b.Atom a sign) = sign
is_positive (b.Theory relation sign) = false

-- an atom as the head
abbrev pub gives_atom : GroundHead → Bool
gives_atom (h.Atom a) = true
gives_atom head = false

-- a definite rule: an atom from positive atoms
abbrev pub is_definite_rule : GroundRule → Bool
is_definite_rule rule = gives_atom rule.head && list_all is_positive rule.body

-- all rules are definite, and there is no variable and no objective
abbrev pub is_definite : GroundProgram → Bool
is_definite program =
    list_all is_definite_rule program.rules && (length program.variables == 0) && not program.has_objective
