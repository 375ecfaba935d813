use Rattle.std.proofs.Common.{◌≡◌, ◌∷◌, ◌+◌, drop, sym, ap, ◌∙◌}
use Rattle.ground_model.specs.declared.linear.Place.{Place}
use Rattle.ground_model.proofs.Products.{drop_next}
use Rattle.ground_parts.proofs.SumSteps.{places_step}
use Rattle.ground_parts.proofs.totals.add_places.Goals as goal

pub loop-place-preserved : goal.loop-place-preserved
loop-place-preserved c =
    let next : drop c.loop-place.place-index c.args.places.now ≡ c.place-item.result ∷ drop (c.loop-place.place-index + 1) c.args.places.now =
    drop_next c.args.places.now c.loop-place.place-index c.place-item.result c.loop-place-test.true
    ∙ ap (λ (x : Place). x ∷ drop (c.loop-place.place-index + 1) c.args.places.now) (sym c.place-item.is) in
    let s = places_step c.args.places.now c.loop-place.place-index c.place-item.result c.loop-place.sums c.add_linear.new.sums _ next c.add_linear.auto.sums
    c.loop-place.invariant.left c.loop-place.invariant.so_far c.loop-place.invariant.within c.add_linear.ensures.sums c.add_linear.ensures.within in
    record { left = s.left; so_far = s.so_far; within = s.within }
