use Rattle.std.proofs.Common.{◌≡◌, Bool, true, false, sym, ◌∙◌, subst, refl}
use Rattle.ground_model.specs.Members.{IsMember}
use Rattle.collected_atoms.specs.Gathering.{IsAnswer}
use Rattle.collected_atoms.proofs.LinearLemmas.{guard_crooked, element_crooked, is_linear}
use Rattle.collected_atoms.proofs.AnswerLemmas.{first_crooked}
use Rattle.collected_atoms.proofs.collecting.collected_atom.Goals as goal

pub returns-in-None-clause-collects : goal.returns-in-None-clause-collects
returns-in-None-clause-collects c atoms rule values theory e g =
    first_crooked (IsMember atoms) rule values theory g.judged.settled
    (guard_crooked c.args.symbols.now (IsMember atoms) rule values theory c.args.guard c.in-None.ensures.none g.judged.guard_is)

pub returns-in-Some-clause-collects : goal.returns-in-Some-clause-collects
returns-in-Some-clause-collects c atoms rule values theory e g = go c.args.gathered.not_linear refl
  where
    go : (b : Bool) → c.args.gathered.not_linear ≡ b → IsAnswer c.args.symbols.now (IsMember atoms) rule values theory c.with_guard.result
    go true f =
        subst (IsAnswer c.args.symbols.now (IsMember atoms) rule values theory) (sym (c.with_guard.ensures.crooked f))
        (first_crooked (IsMember atoms) rule values theory g.judged.settled
        (element_crooked c.args.symbols.now (IsMember atoms) rule values theory g.all c.args.guard g.judged (sym g.together.not_linear ∙ f)))
    go false f =
        c.with_guard.ensures.collects f atoms rule values theory e
        (is_linear c.args.symbols.now (IsMember atoms) rule values theory g.all c.args.guard g.judged (sym g.together.not_linear ∙ f) c.args.gathered g.together c.in-Some.guard c.in-Some.ensures.some)
