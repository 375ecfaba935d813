use Rattle.std.proofs.Common.{◌≡◌, ◌+◌, ◌*ℤ◌, ◌++◌, ◌∙◌, [], ◌∷◌, true, false, length, sym, ap, subst, w64, to_z, of_z}
use Rattle.ground_model.specs.Sound.{is_small}
use Rattle.program_meaning.specs.Said.{IsKnownPair}
use Rattle.collected_terms.specs.inner.Merging.{all_small}
use Rattle.collected_terms.proofs.Words.{small_same}
use Rattle.collected_terms.proofs.Merges.{IsMultiplying, read, times, multiplying_start, multiplying_more, multiplying_large, multiplied_all, multiplied_known}
use Rattle.collected_terms.proofs.sums.multiplied.Goals as goal

pub loop-pair-init : goal.loop-pair-init
loop-pair-init c =
    let k = to_z w64 (of_z w64 c.args.by) in
    subst (λ out. IsMultiplying c.args.symbols.now k c.args.pairs.now out 0) (sym c.new-out.ensures) (multiplying_start c.args.symbols.now k c.args.pairs.now)

pub returns-in-None-clause-none : goal.returns-in-None-clause-none
returns-in-None-clause-none c =
    let symbols = c.args.symbols.now in
    let pairs = c.args.pairs.now in
    let at = c.loop-pair.pair-index in
    let x = c.pair-item.result in
    let k = to_z w64 (of_z w64 c.args.by) in
    let same_k = small_same c.args.by c.requires.by in
    let known = subst (IsKnownPair (length symbols)) (sym c.pair-item.is) (c.requires.pairs.each at x c.loop-pair-test.true) in
    let same_x = small_same x.1 known.1 in
    subst (λ z. all_small (times z (read symbols pairs)) ≡ false) same_k
    (multiplying_large symbols k pairs c.loop-pair.out at c.loop-pair.invariant x c.loop-pair-test.true c.pair-item.is
    (subst (λ z. is_small (k *ℤ z) ≡ false) same_x c.in-None.ensures))

pub loop-pair-preserved : goal.loop-pair-preserved
loop-pair-preserved c =
    let symbols = c.args.symbols.now in
    let pairs = c.args.pairs.now in
    let at = c.loop-pair.pair-index in
    let x = c.pair-item.result in
    let k = to_z w64 (of_z w64 c.args.by) in
    let known = subst (IsKnownPair (length symbols)) (sym c.pair-item.is) (c.requires.pairs.each at x c.loop-pair-test.true) in
    let same_x = small_same x.1 known.1 in
    let is_m : c.in-Some.coefficient ≡ k *ℤ x.1 = c.in-Some.ensures.1 ∙ ap (λ z. k *ℤ z) same_x in
    let small_m : is_small c.in-Some.coefficient ≡ true = ap is_small c.in-Some.ensures.1 ∙ c.in-Some.ensures.0 in
    let more = multiplying_more symbols k pairs c.loop-pair.out at c.loop-pair.invariant x c.loop-pair-test.true c.pair-item.is c.requires.pairs.each
    c.in-Some.coefficient is_m small_m in
    subst (λ out. IsMultiplying symbols k pairs out (at + 1)) (sym c.in_ok-push-in-Some.ensures.ok)
    (subst (λ z. IsMultiplying symbols k pairs (c.loop-pair.out ++ (x.0, z) ∷ []) (at + 1)) (sym (small_same c.in-Some.coefficient small_m)) more)

pub returns-clause-some : goal.returns-clause-some
returns-clause-some c =
    let symbols = c.args.symbols.now in
    let k = to_z w64 (of_z w64 c.args.by) in
    multiplied_all symbols k c.args.pairs.now c.loop-pair.out c.loop-pair.pair-index c.loop-pair.invariant c.loop-pair-test.false
    ∙ ap (λ z. times z (read symbols c.args.pairs.now)) (small_same c.args.by c.requires.by)

pub returns-clause-known : goal.returns-clause-known
returns-clause-known c =
    multiplied_known c.args.symbols.now (to_z w64 (of_z w64 c.args.by)) c.args.pairs.now c.loop-pair.out c.loop-pair.pair-index c.loop-pair.invariant
    c.loop-pair-test.false c.requires.pairs
