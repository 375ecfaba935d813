use Rattle.std.proofs.Common.{◌≡◌, ◌∷◌, ◌+◌, drop, length, sym, ap, subst, ◌∙◌}
use Rattle.ground_model.specs.declared.linear.Place.{Place}
use Rattle.ground_model.proofs.Products.{drop_next}
use Rattle.ground_parts.specs.inner.Totals.{AllHavePlaces}
use Rattle.ground_parts.proofs.FlagSteps.{unmarked_place}
use Rattle.ground_parts.proofs.totals.unmark_places.Goals as goal

pub loop-place-preserved : goal.loop-place-preserved
loop-place-preserved c =
    let next : drop c.loop-place.place-index c.args.places.now ≡ c.place-item.result ∷ drop (c.loop-place.place-index + 1) c.args.places.now =
    drop_next c.args.places.now c.loop-place.place-index c.place-item.result c.loop-place-test.true
    ∙ ap (λ (x : Place). x ∷ drop (c.loop-place.place-index + 1) c.args.places.now) (sym c.place-item.is) in
    record {
      left = subst (λ n. AllHavePlaces n (drop (c.loop-place.place-index + 1) c.args.places.now)) (sym c.unmark_linear.auto.seen)
          (subst (AllHavePlaces (length c.loop-place.seen)) next c.loop-place.invariant.left).1;
      so_far = unmarked_place c.args.places.now c.loop-place.place-index c.place-item.result c.loop-place.seen c.unmark_linear.new.seen _ next
          c.loop-place.invariant.so_far c.unmark_linear.ensures;
    }
