use Rattle.std.proofs.Common.{rules, arith, ◌≡◌, ◌<◌, ◌+◌, ◌+ℤ◌, ◌<ℤ◌, pos, subst, sym, ◌∙◌, FitsSigned, ℕ, List, length, IsTrue}
use Rattle.std.specs.Int.{w128}
use Rattle.std.specs.List.{All}
use Rattle.std.proofs.lemmas.Int.{to_z-of_z}
use Rattle.literals.specs.declared.lit.Lit.TheVariants.{Constraint}
use Rattle.linear_normal.specs.declared.constraint.Item.{Item}
use Rattle.trail.specs.Assignment.{Assignment}
use Rattle.trail.proofs.GrowthLaws.{grows_same, grows_length}
use Rattle.propagator_core.specs.Shown.{IsShown}
use Rattle.propagator_core.specs.Quiet.{IsQuiet}
use Rattle.trail_bounds.specs.OnTrail.{is_item_of, bounds_on}
use Rattle.sum_propagator.specs.Sums.{IsWithin}
use Rattle.sum_propagator.specs.Kinds.{meaning_of}
use Rattle.sum_propagator.specs.Sides.{limit_of}
use Rattle.trail_bounds.specs.Sides.{side_sum}
use Rattle.sum_propagator.specs.Reasons.{Explains}
use Rattle.sum_propagator.proofs.Narrowing.{kind_items, own_names, grows_fits}
use Rattle.sum_propagator.proofs.Widths.{all_rest}
use Rattle.sum_propagator.proofs.Settling.{conflict_here, excess_is, sum_is}
use Rattle.sum_propagator.proofs.Resting.{done_kind}
use Rattle.sum_propagator.proofs.sum_propagator.decided.Goals as goal

pub returns-then-total-limit-clause-answer : goal.returns-then-total-limit-clause-answer
returns-then-total-limit-clause-answer c =
    let fm : FitsSigned w128 c.args.sum.now.most = search rules in
    let ft : FitsSigned w128 c.args.total = search rules in
    let fl : FitsSigned w128 c.limit-limit.result = search rules in
    let e = simp to_z-of_z at c.limit-limit.ensures.value in
    let h : (c.limit-limit.result +ℤ pos c.excess_of-spare.result) <ℤ c.args.total = (let w = simp to_z-of_z at c.excess_of-spare.ensures in w) in
    conflict_here c.args.trail.now c.args.sum.now.kind c.args.sum.now.number c.args.sum.now.items c.args.sum.now.most c.args.side (Constraint c.args.sum.now.number c.args.side) c.excess_of-spare.result c.in_ok-reason.reason c.requires.on
    (excess_is (limit_of c.args.side c.args.sum.now.most) c.limit-limit.result c.args.total (side_sum c.args.side (bounds_on c.args.trail.now) c.args.sum.now.items) c.excess_of-spare.result e c.requires.total h)
    (subst (λ (n : ℕ). Explains c.args.trail.now c.args.sum.now.kind c.args.sum.now.number c.args.sum.now.items c.args.side n (Constraint c.args.sum.now.number c.args.side) c.excess_of-spare.result c.in_ok-reason.reason) c.len.ensures c.in_ok-reason.ensures)

pub returns-then-length-before-clause-answer : goal.returns-then-length-before-clause-answer
returns-then-length-before-clause-answer c =
    let fm : FitsSigned w128 c.args.sum.now.most = search rules in
    let ft : FitsSigned w128 c.args.total = search rules in
    let fl : FitsSigned w128 c.limit-limit.result = search rules in
    let e = simp to_z-of_z at c.limit-limit.ensures.value in
    let h : (c.args.total +ℤ pos c.slack_of-slack.result) ≡ c.limit-limit.result = (let w = simp to_z-of_z at c.slack_of-slack.ensures in w) in
    let length_is : length c.press.new.trail.entries ≡ length c.args.trail.now.entries = sym c.length.ensures.value ∙ c.if-length-before.true ∙ c.length-before.ensures.value in
    let same : c.press.new.trail ≡ c.args.trail.now = grows_same (IsShown (meaning_of c.args.sum.now.kind c.args.sum.now.number c.args.sum.now.items c.args.sum.now.most).valid) c.args.trail.now c.press.new.trail c.press.ensures.grows length_is in
    subst (λ (t : Assignment). IsQuiet (meaning_of c.args.sum.now.kind c.args.sum.now.number c.args.sum.now.items c.args.sum.now.most) t × IsTrue ((meaning_of c.args.sum.now.kind c.args.sum.now.number c.args.sum.now.items c.args.sum.now.most).rests t)) (sym same)
    (done_kind c.args.trail.now c.args.sum.now.kind c.args.sum.now.number c.args.sum.now.items c.args.sum.now.most c.args.side c.slack_of-slack.result c.requires.assignment c.args.sum.now.are_items c.requires.fits c.requires.on
    (sum_is (limit_of c.args.side c.args.sum.now.most) c.limit-limit.result c.args.total (side_sum c.args.side (bounds_on c.args.trail.now) c.args.sum.now.items) c.slack_of-slack.result e c.requires.total h)
    (c.in_ok-press.ensures.rest same))

pub returns-else-length-before-clause-answer : goal.returns-else-length-before-clause-answer
returns-else-length-before-clause-answer c =
    let more = grows_length (IsShown (meaning_of c.args.sum.now.kind c.args.sum.now.number c.args.sum.now.items c.args.sum.now.most).valid) c.args.trail.now c.press.new.trail c.press.ensures.grows in
    longer (length c.args.trail.now.entries) (length c.press.new.trail.entries) (length c.press.ensures.grows.more) c.length.result c.length-before.result more c.length.ensures.value c.length-before.ensures.value c.if-length-before.false
  where
    longer : (a b m x y : ℕ) → b ≡ a + m → x ≡ b → y ≡ a → (x ≡ y → ⊥) → a < b
    longer a b m x y e f g n = grind arith

pub returns-then-is_at_most-clause-answer : goal.returns-then-is_at_most-clause-answer
returns-then-is_at_most-clause-answer c =
    let fm : FitsSigned w128 c.args.sum.now.most = search rules in
    let ft : FitsSigned w128 c.args.total = search rules in
    let fl : FitsSigned w128 c.limit-limit.result = search rules in
    let e = simp to_z-of_z at c.limit-limit.ensures.value in
    let h : (c.args.total +ℤ pos c.slack_of-slack.result) ≡ c.limit-limit.result = (let w = simp to_z-of_z at c.slack_of-slack.ensures in w) in
    done_kind c.args.trail.now c.args.sum.now.kind c.args.sum.now.number c.args.sum.now.items c.args.sum.now.most c.args.side c.slack_of-slack.result c.requires.assignment c.args.sum.now.are_items c.requires.fits c.requires.on
    (sum_is (limit_of c.args.side c.args.sum.now.most) c.limit-limit.result c.args.total (side_sum c.args.side (bounds_on c.args.trail.now) c.args.sum.now.items) c.slack_of-slack.result e c.requires.total h)
    (all_rest c.args.side (bounds_on c.args.trail.now) c.args.sum.now.items c.args.widest.now c.slack_of-slack.result c.requires.widest (c.is_at_most.ensures c.if-is_at_most.true))

pub widest_on-requires-clause-named : goal.widest_on-requires-clause-named
widest_on-requires-clause-named c =
    subst (λ (items : List Item). All (λ (i : Item). IsTrue (is_item_of c.press.new.trail.shape i)) items) (sym c.items.ensures)
    (kind_items c.args.sum.now.kind c.press.new.trail.shape c.args.sum.now.number c.args.sum.now.items c.args.sum.now.most
    (grows_fits (IsShown (meaning_of c.args.sum.now.kind c.args.sum.now.number c.args.sum.now.items c.args.sum.now.most).valid) c.args.trail.now c.press.new.trail (meaning_of c.args.sum.now.kind c.args.sum.now.number c.args.sum.now.items c.args.sum.now.most).fits c.press.ensures.grows c.requires.fits))

pub returns-then-length-before-clause-widest : goal.returns-then-length-before-clause-widest
returns-then-length-before-clause-widest c =
    let length_is : length c.press.new.trail.entries ≡ length c.args.trail.now.entries = sym c.length.ensures.value ∙ c.if-length-before.true ∙ c.length-before.ensures.value in
    let same : c.press.new.trail ≡ c.args.trail.now = grows_same (IsShown (meaning_of c.args.sum.now.kind c.args.sum.now.number c.args.sum.now.items c.args.sum.now.most).valid) c.args.trail.now c.press.new.trail c.press.ensures.grows length_is in
    subst (λ (items : List Item). All (IsWithin c.widest_on.result (bounds_on c.args.trail.now)) items) c.items.ensures
    (subst (λ (t : Assignment). All (IsWithin c.widest_on.result (bounds_on t)) c.items.result.now) same c.widest_on.ensures)

pub explain-requires-clause-own : goal.explain-requires-clause-own
explain-requires-clause-own c = own_names c.args.sum.now.kind c.args.trail.now.shape c.args.sum.now.number c.args.sum.now.items c.args.sum.now.most c.args.side c.requires.fits

pub explain-requires-clause-named : goal.explain-requires-clause-named
explain-requires-clause-named c = kind_items c.args.sum.now.kind c.args.trail.now.shape c.args.sum.now.number c.args.sum.now.items c.args.sum.now.most c.requires.fits

pub explain-requires-clause-instead : goal.explain-requires-clause-instead
explain-requires-clause-instead c = λ lt. absurd (let e = c.len.ensures in omega (arith, e, lt))
