-- A trail at rest under its nogoods and propagators is one whose answer is a constraint stable model.
use Rattle.std.proofs.Common.{◌≡◌, ◌⊎◌, inl, inr, ℕ, Bool, true, false, List, sym, subst, true≢false, Option, None, Some, is_some, IsTrue, refl}
use Rattle.std.specs.List.{All}
use Rattle.std.proofs.lemmas.List.Elements.{recursion_from_All}
use Rattle.literals.specs.declared.lit.Lit.{Lit}
use Rattle.literals.specs.declared.lit.Lit.TheVariants as l
use Rattle.ground_model.specs.declared.program.GroundProgram.{GroundProgram}
use Rattle.ground_model.specs.Answers.{IsNumbered}
use Rattle.ground_model.specs.Members.{IsMember}
use Rattle.ground_model.proofs.MemberLemmas.{property_member, property_map, contains_member}
use Rattle.linear_normal.specs.declared.constraint.Constraint.{Constraint}
use Rattle.linear_normal.specs.Numbering.{numbering}
use Rattle.linear_normal.specs.Truth.{numbered_in}
use Rattle.completion.specs.Inputs.{input_nogoods}
use Rattle.trail.specs.declared.shape.Shape.{Shape}
use Rattle.trail.specs.Assignment.{Assignment, truth_on}
use Rattle.trail.specs.Forced.{AllTrueOn}
use Rattle.nogood_store.specs.Holding.{Held, IsHeld}
use Rattle.nogood_store.specs.Propagation as store
use Rattle.propagator_core.specs.Meaning.{Meaning}
use Rattle.propagator_core.specs.Quiet.{IsDecided, IsQuiet, IsSteady}
use Rattle.trail_worlds.specs.Worlds.{has_work, IsSettledOn}
use Rattle.trail_worlds.specs.Calm.{Settles, IsAtRest, CalmLaw}
use Rattle.trail_worlds.proofs.TrailLemmas.{constraint_decided}
use Rattle.trail_worlds.proofs.AnswerLemmas.{answer_law}

some_truth : (o : Option Bool) → is_some o ≡ true → (o ≡ Some true) ⊎ (o ≡ Some false)
some_truth None e = absurd (true≢false (sym e))
some_truth (Some true) e = inl refl
some_truth (Some false) e = inr refl

module _ (program : GroundProgram) (held : List Held) (meanings : List Meaning) (t : Assignment) (is : IsAtRest program held meanings t) where
  of_all : (P : Meaning → Type 0) → All P meanings → (m : Meaning) → IsMember meanings m → P m
  of_all P all m k = property_member P meanings m (recursion_from_All P meanings all) k

  not_met : (nogood : List Lit) → IsHeld held nogood → AllTrueOn t nogood → ⊥
  not_met nogood h all =
      (property_member (λ (g : Held). store.IsQuiet t g.nogood) held h.0 is.calm.nogoods (contains_member held h.0 h.1)).not_met (subst (AllTrueOn t) (sym h.2) all)

  decided : (n : ℕ) (constraint : Constraint) (m : Meaning) → Settles program n constraint m → IsDecided m t
  decided n constraint m settles = record {
    values = is.total.values;
    counted = λ k counts.
        some_truth (truth_on t (l.Constraint k true)) (constraint_decided t is.total k (subst (λ (s : Shape). IsNumbered s.constraints k) (sym is.shape) (settles.counted k counts)));
  }

  settled : (n : ℕ) (constraint : Constraint) → numbered_in (numbering program).constraints n ≡ Some constraint → has_work constraint ≡ true → IsSettledOn t n constraint
  settled n constraint e work =
      let w = is.each n constraint e work in
      let quiet : IsQuiet w.0 t =
      (of_all IsSteady is.steady w.0 w.1).quiet t is.assignment (of_all (λ m. IsTrue (m.fits t.shape)) is.fit w.0 w.1) (of_all (λ m. IsTrue (m.rests t)) is.calm.rest w.0 w.1) in
      w.2.settles t is.shape is.assignment is.total (quiet.settled (decided n constraint w.0 w.2))

pub calm_law : CalmLaw
calm_law program held meanings t is =
    answer_law program t (record {
      assignment = is.assignment;
      shape = is.shape;
      total = is.total;
      met = property_map (IsHeld held) (λ nogood. AllTrueOn t nogood → ⊥) (not_met program held meanings t is) (input_nogoods program) is.inputs;
      settled = settled program held meanings t is;
      founded = is.founded;
    })
