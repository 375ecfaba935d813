use Rattle.std.proofs.Common.{◌≡◌, ◌∙◌, ◌-◌, ◌∷◌, ◌++◌, [], ap, sym, length, arith}
use Rattle.unfounded_sets.specs.inner.Outer.{left_of}
use Rattle.unfounded_sets.proofs.OpenLemmas.{left_more, left_same}
use Rattle.unfounded_sets.proofs.flags.left.Goals as goal

pub loop-at-preserved-then-has_flag : goal.loop-at-preserved-then-has_flag
loop-at-preserved-then-has_flag c = c.loop-at.invariant ∙ sym (left_same c.args.given.now c.loop-at.at (omega arith) (sym c.has_flag.ensures ∙ c.if-has_flag.true))

pub loop-at-preserved : goal.loop-at-preserved
loop-at-preserved c =
    c.in_ok-push.ensures.items ∙ ap (λ xs. xs ++ c.loop-at.at ∷ []) c.loop-at.invariant
    ∙ sym (left_more c.args.given.now c.loop-at.at (omega arith) (sym c.has_flag.ensures ∙ c.if-has_flag.false))

pub returns : goal.returns
returns c =
    let e : c.loop-at.at - 1 ≡ length c.args.given.now - 1 = omega arith in
    c.loop-at.invariant ∙ ap (left_of c.args.given.now) e
