use Rattle.std.proofs.Common.{◌≡◌, ◌∙◌, ◌+ℤ◌, true, refl, sym, ap, subst, IfSome, w64, to_z, of_z}
use Rattle.ground_model.specs.Sound.{is_small}
use Rattle.program_meaning.specs.Collected.{added, pairs_added}
use Rattle.program_meaning.specs.Said.{linear_in}
use Rattle.collected_terms.specs.inner.Merging.{AreKnown}
use Rattle.collected_terms.proofs.Merges.{read}
use Rattle.collected_terms.proofs.Words.{small_same}
use Rattle.collected_terms.proofs.Shapes.{plus_holds, large_constant, found_small}
use Rattle.collected_terms.proofs.forms.plus.Goals as goal

pub returns-in-None-sum-clause-found : goal.returns-in-None-sum-clause-found
returns-in-None-sum-clause-found c =
    let symbols = c.args.symbols.now in
    let a = linear_in symbols c.args.a.now in
    let b = linear_in symbols c.args.b.now in
    let same : to_z w64 (of_z w64 c.args.a.now.constant) +ℤ to_z w64 (of_z w64 c.args.b.now.constant) ≡ c.args.a.now.constant +ℤ c.args.b.now.constant = λ i. small_same c.args.a.now.constant c.requires.a.constant i +ℤ small_same c.args.b.now.constant c.requires.b.constant i in
    (refl, large_constant (added a b) (sym (ap is_small same) ∙ c.in-None-sum.ensures), c.one_holds-in-None-sum.ensures symbols ∙ plus_holds a b)

pub returns-in-Some-sum-clause-found : goal.returns-in-Some-sum-clause-found
returns-in-Some-sum-clause-found c =
    let symbols = c.args.symbols.now in
    let a = linear_in symbols c.args.a.now in
    let b = linear_in symbols c.args.b.now in
    let same : to_z w64 (of_z w64 c.args.a.now.constant) +ℤ to_z w64 (of_z w64 c.args.b.now.constant) ≡ c.args.a.now.constant +ℤ c.args.b.now.constant = λ i. small_same c.args.a.now.constant c.requires.a.constant i +ℤ small_same c.args.b.now.constant c.requires.b.constant i in
    let small : is_small (c.args.a.now.constant +ℤ c.args.b.now.constant) ≡ true = sym (ap is_small same) ∙ c.in-Some-sum.ensures.0 in
    let is : c.in-Some-sum.constant ≡ c.args.a.now.constant +ℤ c.args.b.now.constant = c.in-Some-sum.ensures.1 ∙ same in
    let kept = small_same c.in-Some-sum.constant (ap is_small is ∙ small) in
    let known = subst (λ o. IfSome o (λ pairs. AreKnown symbols pairs)) c.in-Some.is c.in_ok-merged.ensures.known in
    let pairs = subst (λ o. IfSome o (λ pairs. read symbols pairs ≡ pairs_added (read symbols c.items.result.now) (read symbols c.items-2.result.now))) c.in-Some.is c.in_ok-merged.ensures.some in
    found_small symbols (added a b) (record { pairs = c.in-Some.pairs; constant = to_z w64 (of_z w64 c.in-Some-sum.constant) }) known
    (pairs ∙ (λ i. pairs_added (read symbols (c.items.ensures i)) (read symbols (c.items-2.ensures i)))) small (kept ∙ is)
