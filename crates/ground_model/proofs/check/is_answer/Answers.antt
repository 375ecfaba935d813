use Rattle.std.proofs.Common.{◌≡◌, ◌↔◌, ◌+◌, ℕ, ℤ, Bool, List, true, false, IsTrue, length, slice_index_or, ap, sym, ◌∙◌, subst, true≢false, rules}
use Rattle.std.proofs.lemmas.Result.{IfOk-weaker}
use Rattle.ground_model.specs.inner.Agreement.{IsStableCandidate}
use Rattle.ground_model.specs.Answers.{has_atom, IsAnswerOf}
use Rattle.ground_model.specs.Duties.{IsStableByTests}
use Rattle.ground_model.specs.World.{world_by}
use Rattle.ground_model.proofs.CheckLemmas.{shape_from_test, test_from_answer, candidate_of, from_stable, to_stable}
use Rattle.ground_model.proofs.check.is_answer.Goals as goal

pub returns-then-not-is_shaped : goal.returns-then-not-is_shaped
returns-then-not-is_shaped c =
    let no : c.is_shaped.result ≡ false = search rules in (
      λ f. absurd (true≢false (sym f)),
      λ is. absurd (true≢false (sym (test_from_answer c.args.program.now c.args.answer.now is) ∙ sym c.is_shaped.ensures ∙ no)),
    )

pub atom_flags-requires-clause-atoms : goal.atom_flags-requires-clause-atoms
atom_flags-requires-clause-atoms c =
    let yes : c.is_shaped.result ≡ true = search rules in
    let shape = shape_from_test c.args.program.now c.args.answer.now (sym c.is_shaped.ensures ∙ yes) in
    rw (c.len.ensures, c.items.ensures) shape.known

pub is_stable-requires : goal.is_stable-requires
is_stable-requires c =
    let yes : c.is_shaped.result ≡ true = search rules in
    let shape = shape_from_test c.args.program.now c.args.answer.now (sym c.is_shaped.ensures ∙ yes) in
    let flags : (a : ℕ) → slice_index_or c.deref.result.now a false ≡ has_atom c.args.answer.now.atoms a =
    λ a. ap (λ (xs : List Bool). slice_index_or xs a false) c.deref.ensures.value ∙ c.in_ok-flags.ensures.flags a ∙ ap (λ (xs : List ℕ). has_atom xs a) c.items.ensures in
    let size : length c.deref.result.now ≡ length c.args.program.now.atoms + 1 =
    ap (λ (xs : List Bool). length xs) c.deref.ensures.value ∙ c.in_ok-flags.ensures.size ∙ ap (λ n. n + 1) c.len.ensures in
    subst (IsStableCandidate c.args.program.now c.deref.result.now) (sym c.items-2.ensures)
    (candidate_of c.args.program.now c.deref.result.now c.args.answer.now shape.ascending shape.valuation size flags)

pub returns : goal.returns
returns c =
    let program = c.args.program.now in
    let answer = c.args.answer.now in
    let yes : c.is_shaped.result ≡ true = search rules in
    let shape = shape_from_test program answer (sym c.is_shaped.ensures ∙ yes) in
    let flags : (a : ℕ) → slice_index_or c.deref.result.now a false ≡ has_atom answer.atoms a =
    λ a. ap (λ (xs : List Bool). slice_index_or xs a false) c.deref.ensures.value ∙ c.in_ok-flags.ensures.flags a ∙ ap (λ (xs : List ℕ). has_atom xs a) c.items.ensures in
    let P : List ℤ → Type 0 = λ vs. IsStableByTests program.rules (world_by c.deref.result.now vs) in
    IfOk-weaker c.is_stable.result (λ yes. IsTrue yes ↔ P c.items-2.result.now) (λ yes. IsTrue yes ↔ IsAnswerOf program answer)
    (λ yes both. (
      λ t. from_stable program answer c.deref.result.now shape.ascending shape.valuation flags (subst P c.items-2.ensures (both.0 t)),
      λ is. both.1 (subst P (sym c.items-2.ensures) (to_stable program answer c.deref.result.now flags is)),
    ))
    c.is_stable.ensures
