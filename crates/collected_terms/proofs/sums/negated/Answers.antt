use Rattle.std.proofs.Common.{◌+◌, ◌*ℤ◌, ◌++◌, [], ◌∷◌, length, negsuc, refl, sym, subst}
use Rattle.program_meaning.specs.Said.{IsKnownPair}
use Rattle.collected_terms.proofs.Words.{small_turned, turned_same}
use Rattle.collected_terms.proofs.Merges.{IsMultiplying, multiplying_start, multiplying_more, multiplied_all, multiplied_known}
use Rattle.collected_terms.proofs.sums.negated.Goals as goal

pub loop-pair-init : goal.loop-pair-init
loop-pair-init c =
    subst (λ out. IsMultiplying c.args.symbols.now (negsuc 0) c.args.pairs.now out 0) (sym c.new-out.ensures) (multiplying_start c.args.symbols.now (negsuc 0) c.args.pairs.now)

pub loop-pair-preserved : goal.loop-pair-preserved
loop-pair-preserved c =
    let symbols = c.args.symbols.now in
    let pairs = c.args.pairs.now in
    let at = c.loop-pair.pair-index in
    let x = c.pair-item.result in
    let known = subst (IsKnownPair (length symbols)) (sym c.pair-item.is) (c.requires.pairs.each at x c.loop-pair-test.true) in
    let more = multiplying_more symbols (negsuc 0) pairs c.loop-pair.out at c.loop-pair.invariant x c.loop-pair-test.true c.pair-item.is c.requires.pairs.each
    (negsuc 0 *ℤ x.1) refl (small_turned x.1 known.1) in
    subst (λ out. IsMultiplying symbols (negsuc 0) pairs out (at + 1)) (sym c.in_ok-push.ensures.ok)
    (subst (λ z. IsMultiplying symbols (negsuc 0) pairs (c.loop-pair.out ++ (x.0, z) ∷ []) (at + 1)) (sym (turned_same x.1 known.1)) more)

pub returns-clause-found : goal.returns-clause-found
returns-clause-found c =
    multiplied_all c.args.symbols.now (negsuc 0) c.args.pairs.now c.loop-pair.out c.loop-pair.pair-index c.loop-pair.invariant c.loop-pair-test.false

pub returns-clause-known : goal.returns-clause-known
returns-clause-known c =
    multiplied_known c.args.symbols.now (negsuc 0) c.args.pairs.now c.loop-pair.out c.loop-pair.pair-index c.loop-pair.invariant
    c.loop-pair-test.false c.requires.pairs
