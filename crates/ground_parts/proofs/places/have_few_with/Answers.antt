use Rattle.std.proofs.Common.{◌≡◌, ◌+◌, ◌-◌, ◌||◌, ℕ, ◌∷◌, length, refl, ap, ◌∙◌, arith}
use Rattle.ground_model.specs.Sound.{occurs, first_places}
use Rattle.ground_parts.specs.inner.Totals.{names, flag_of, set_flags}
use Rattle.ground_parts.proofs.FlagSteps.{mark_step}
use Rattle.ground_parts.proofs.Counted.{counted, none_occurs_with, same_few}
use Rattle.ground_parts.proofs.places.have_few_with.Goals as goal

total : (c : goal.After-slice_known-5-1) → set_flags c.mark_places-more.new.seen ≡ set_flags c.args.seen.now + (c.mark_linear-own.result + c.mark_places-more.result)
total c = let a = c.mark_linear-own.ensures.count in let b = c.mark_places-more.ensures.count in omega arith

pub returns-clause-few : goal.returns-clause-few
returns-clause-few c =
    let test = occurs (c.args.linear.now ∷ first_places c.args.places.now) in
    let flags : (x : ℕ) → flag_of c.mark_places-more.new.seen x ≡ (test x || flag_of c.args.seen.now x) =
    λ x.
    c.mark_places-more.ensures.flags x ∙ ap (λ t. occurs (first_places c.args.places.now) x || t) (c.mark_linear-own.ensures.flags x)
    ∙ mark_step (names c.args.linear.now.pairs x) (occurs (first_places c.args.places.now) x) (flag_of c.args.seen.now x) in
    same_few test (length c.args.seen.now - 1) (c.mark_linear-own.result + c.mark_places-more.result) _
    (counted c.args.seen.now c.mark_places-more.new.seen test (c.mark_linear-own.result + c.mark_places-more.result) c.requires.size
    (c.mark_places-more.auto.seen ∙ c.mark_linear-own.auto.seen) c.requires.unset flags (total c)
    (none_occurs_with (length c.args.seen.now) c.args.linear.now c.args.places.now c.requires.linear c.requires.places))
    refl
