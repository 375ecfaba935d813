use Rattle.std.proofs.Common.{◌≡◌, ◌∙◌, ◌*ℤ◌, true, sym, ap, subst, IfSome, w64, to_z, of_z}
use Rattle.ground_model.specs.Sound.{is_small}
use Rattle.program_meaning.specs.Collected.{scaled}
use Rattle.program_meaning.specs.Said.{linear_in}
use Rattle.collected_terms.specs.inner.Merging.{AreKnown}
use Rattle.collected_terms.proofs.Merges.{read, times}
use Rattle.collected_terms.proofs.Words.{small_same}
use Rattle.collected_terms.proofs.Shapes.{found_small}
use Rattle.collected_terms.proofs.forms.scaled.Goals as goal

pub returns-in-Some-product-clause-found : goal.returns-in-Some-product-clause-found
returns-in-Some-product-clause-found c =
    let symbols = c.args.symbols.now in
    let a = linear_in symbols c.args.a.now in
    let by = c.args.by in
    let same : to_z w64 (of_z w64 by) *ℤ to_z w64 (of_z w64 c.args.a.now.constant) ≡ by *ℤ c.args.a.now.constant = λ i. small_same by c.requires.by i *ℤ small_same c.args.a.now.constant c.requires.a.constant i in
    let small : is_small (by *ℤ c.args.a.now.constant) ≡ true = sym (ap is_small same) ∙ c.in-Some-product.ensures.0 in
    let is : c.in-Some-product.constant ≡ by *ℤ c.args.a.now.constant = c.in-Some-product.ensures.1 ∙ same in
    let kept = small_same c.in-Some-product.constant (ap is_small is ∙ small) in
    let known = subst (λ o. IfSome o (λ pairs. AreKnown symbols pairs)) c.in-Some.is c.in_ok-multiplied.ensures.known in
    let made = subst (λ o. IfSome o (λ pairs. read symbols pairs ≡ times (to_z w64 (of_z w64 by)) (read symbols c.items.result.now))) c.in-Some.is c.in_ok-multiplied.ensures.some in
    found_small symbols (scaled by a) (record { pairs = c.in-Some.pairs; constant = to_z w64 (of_z w64 c.in-Some-product.constant) }) known
    (made ∙ (λ i. times (small_same by c.requires.by i) (read symbols (c.items.ensures i)))) small (kept ∙ is)
