use Rattle.std.proofs.Common.{◌≡◌, ◌++◌, ◌∙◌, ◌+◌, ◌+ℤ◌, [], ◌∷◌, length, true, false, sym, ap, subst, arith, w64, to_z, of_z}
use Rattle.ground_model.specs.Sound.{is_small}
use Rattle.program_meaning.specs.Said.{IsKnownPair}
use Rattle.collected_terms.proofs.Words.{small_same}
use Rattle.collected_terms.proofs.Merges.{IsMerging, merging_start, merging_less, merging_greater, merging_equal, merging_large, ends_a, ends_b, known_a, known_b}
use Rattle.collected_terms.proofs.sums.merged.Goals as goal

pub merge-init : goal.merge-init
merge-init c =
    subst (λ out. IsMerging c.args.symbols.now c.args.a.now c.args.b.now out 0 0) (sym c.new-out.ensures)
    (merging_start c.args.symbols.now c.args.a.now c.args.b.now c.requires.a c.requires.b)

pub append_from-requires : goal.append_from-requires
append_from-requires c = c.merge.invariant.to_most

pub returns-then-at-a-clause-some : goal.returns-then-at-a-clause-some
returns-then-at-a-clause-some c =
    ends_b c.args.symbols.now c.args.a.now c.args.b.now c.merge.out c.merge.at c.merge.to c.merge.invariant c.if-at-a.true c.append_from.new.out c.in_ok-append_from.ensures

pub returns-then-at-a-clause-known : goal.returns-then-at-a-clause-known
returns-then-at-a-clause-known c =
    known_b c.args.symbols.now c.args.a.now c.args.b.now c.merge.out c.merge.at c.merge.to c.merge.invariant c.if-at-a.true c.append_from.new.out c.in_ok-append_from.ensures

pub returns-then-to-b-clause-some : goal.returns-then-to-b-clause-some
returns-then-to-b-clause-some c =
    ends_a c.args.symbols.now c.args.a.now c.args.b.now c.merge.out c.merge.at c.merge.to c.merge.invariant c.if-to-b.true c.append_from-then-to-b.new.out
    c.in_ok-append_from-2.ensures

pub returns-then-to-b-clause-known : goal.returns-then-to-b-clause-known
returns-then-to-b-clause-known c =
    known_a c.args.symbols.now c.args.a.now c.args.b.now c.merge.out c.merge.at c.merge.to c.merge.invariant c.if-to-b.true c.append_from-then-to-b.new.out
    c.in_ok-append_from-2.ensures

pub merge-preserved-in-Less : goal.merge-preserved-in-Less
merge-preserved-in-Less c =
    subst (λ out. IsMerging c.args.symbols.now c.args.a.now c.args.b.now out (c.merge.at + 1) c.merge.to) (sym c.in_ok-push-in-Less.ensures.ok)
    (merging_less c.args.symbols.now c.args.a.now c.args.b.now c.merge.out c.merge.at c.merge.to c.merge.invariant c.index-a-at.result c.index-b-to.result c.if-at-a.false c.if-to-b.false c.index-a-at.is c.index-b-to.is (sym c.compare.ensures ∙ c.in-Less.is))

pub merge-smaller-in-Greater : goal.merge-smaller-in-Greater
merge-smaller-in-Greater c = let below = c.if-to-b.false in let bound = c.if-at-a.false in omega (arith, below, bound)

pub merge-preserved-in-Greater : goal.merge-preserved-in-Greater
merge-preserved-in-Greater c =
    subst (λ out. IsMerging c.args.symbols.now c.args.a.now c.args.b.now out c.merge.at (c.merge.to + 1)) (sym c.in_ok-push-in-Greater.ensures.ok)
    (merging_greater c.args.symbols.now c.args.a.now c.args.b.now c.merge.out c.merge.at c.merge.to c.merge.invariant c.index-a-at.result c.index-b-to.result c.if-at-a.false c.if-to-b.false c.index-a-at.is c.index-b-to.is (sym c.compare.ensures ∙ c.in-Greater.is))

pub returns-in-None-clause-none : goal.returns-in-None-clause-none
returns-in-None-clause-none c =
    let size = length c.args.symbols.now in
    let x = c.index-a-at.result in
    let y = c.index-b-to.result in
    let known_x = subst (IsKnownPair size) (sym c.index-a-at.is) (c.merge.invariant.each_a c.merge.at x c.if-at-a.false) in
    let known_y = subst (IsKnownPair size) (sym c.index-b-to.is) (c.merge.invariant.each_b c.merge.to y c.if-to-b.false) in
    let same : to_z w64 (of_z w64 x.1) +ℤ to_z w64 (of_z w64 y.1) ≡ x.1 +ℤ y.1 = λ i. small_same x.1 known_x.1 i +ℤ small_same y.1 known_y.1 i in
    merging_large c.args.symbols.now c.args.a.now c.args.b.now c.merge.out c.merge.at c.merge.to c.merge.invariant c.index-a-at.result c.index-b-to.result c.if-at-a.false c.if-to-b.false c.index-a-at.is c.index-b-to.is (sym c.compare.ensures ∙ c.in-Equal.is)
    (subst (λ z. is_small z ≡ false) same c.in-None.ensures)

pub merge-preserved : goal.merge-preserved
merge-preserved c =
    let size = length c.args.symbols.now in
    let x = c.index-a-at.result in
    let y = c.index-b-to.result in
    let known_x = subst (IsKnownPair size) (sym c.index-a-at.is) (c.merge.invariant.each_a c.merge.at x c.if-at-a.false) in
    let known_y = subst (IsKnownPair size) (sym c.index-b-to.is) (c.merge.invariant.each_b c.merge.to y c.if-to-b.false) in
    let same : to_z w64 (of_z w64 x.1) +ℤ to_z w64 (of_z w64 y.1) ≡ x.1 +ℤ y.1 = λ i. small_same x.1 known_x.1 i +ℤ small_same y.1 known_y.1 i in
    let total = c.in-Some.total in
    let small : is_small total ≡ true = ap is_small c.in-Some.ensures.1 ∙ c.in-Some.ensures.0 in
    let more = merging_equal c.args.symbols.now c.args.a.now c.args.b.now c.merge.out c.merge.at c.merge.to c.merge.invariant c.index-a-at.result c.index-b-to.result c.if-at-a.false c.if-to-b.false c.index-a-at.is c.index-b-to.is (sym c.compare.ensures ∙ c.in-Equal.is)
    total (c.in-Some.ensures.1 ∙ same) small in
    subst (λ out. IsMerging c.args.symbols.now c.args.a.now c.args.b.now out (c.merge.at + 1) (c.merge.to + 1)) (sym c.in_ok-push-in-Some.ensures.ok)
    (subst (λ z. IsMerging c.args.symbols.now c.args.a.now c.args.b.now (c.merge.out ++ (x.0, z) ∷ []) (c.merge.at + 1) (c.merge.to + 1)) (sym (small_same total small)) more)
