-- Lines after lines.
use Rattle.std.proofs.Common.{◌≡◌, ◌↔◌, List, [], ◌∷◌, ◌++◌, refl, sym, ◌∙◌, ap}
use Rattle.std.proofs.lemmas.Grind.{flat_map-append, fold-append}
use Rattle.ground_model.specs.declared.program.GroundProgram.{GroundProgram}
use Rattle.derivation.specs.declared.line.Line.{Line}
use Rattle.derivation_meaning.specs.State.{State}
use Rattle.derivation_meaning.specs.Valid.{after}
use Rattle.derivation_meaning.specs.Acceptance.{AreValid, after_all}
use Rattle.derivation_meaning.specs.Claims.{answer_in}
use Rattle.derivation_meaning.specs.Laws.{JoinLaw}

valid_parts : (program : GroundProgram) (state : State) (lines more : List Line) → AreValid program state (lines ++ more)
    → AreValid program state lines × AreValid program (after_all program state lines) more
valid_parts program state [] more v = (tt, v)
valid_parts program state (line ∷ lines) more v = let p = valid_parts program (after program state line) lines more v.1 in ((v.0, p.0), p.1)

valid_both : (program : GroundProgram) (state : State) (lines more : List Line)
    → AreValid program state lines × AreValid program (after_all program state lines) more → AreValid program state (lines ++ more)
valid_both program state [] more v = v.1
valid_both program state (line ∷ lines) more v = (v.0.0, valid_both program (after program state line) lines more (v.0.1, v.1))

pub join_law : JoinLaw
join_law program state lines more = record {
  valid = (valid_parts program state lines more, valid_both program state lines more);
  leads = fold-append (after program) state lines more;
  gives = flat_map-append answer_in lines more;
}
