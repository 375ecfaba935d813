use Rattle.std.proofs.Common.{◌≡◌, ◌+◌, true, false, List, [], drop, map, subst, sym, ◌∙◌, rules}
use Rattle.std.specs.List.{list_all}
use Rattle.ground_model.specs.declared.linear.Place.{Place}
use Rattle.ground_model.specs.Answers.{value_at}
use Rattle.ground_model.specs.Truth.{differ}
use Rattle.ground_model.specs.View.{place_of}
use Rattle.linear_normal.proofs.ValueLemmas.{rest_of, pairs_fail, pairs_go_on, few_after}
use Rattle.linear_normal.proofs.values.all_differ.Goals as goal

pub returns-then-not-differs_from : goal.returns-then-not-differs_from
returns-then-not-differs_from c =
    let found : c.differs_from.result ≡ false = search (rules, c.if-not-differs_from.true) in
    let fails : list_all (differ (value_at c.args.values.now) (place_of [] c.index-places-at.result)) (map (place_of []) (drop (c.loop-at.at + 1) c.args.places.now)) ≡ false = subst (λ (ps : List Place). list_all (differ (value_at c.args.values.now) (place_of [] c.index-places-at.result)) (map (place_of []) ps) ≡ false) (rest_of c.args.places.now (c.loop-at.at + 1)) (sym c.differs_from.ensures ∙ found) in
    sym (sym c.loop-at.invariant.same ∙ pairs_fail (differ (value_at c.args.values.now)) c.args.places.now c.loop-at.at c.index-places-at.result c.loop-at-test.true c.index-places-at.is fails)

pub loop-at-preserved : goal.loop-at-preserved
loop-at-preserved c =
    let found : c.differs_from.result ≡ true = search (rules, c.if-not-differs_from.false) in
    let goes : list_all (differ (value_at c.args.values.now) (place_of [] c.index-places-at.result)) (map (place_of []) (drop (c.loop-at.at + 1) c.args.places.now)) ≡ true = subst (λ (ps : List Place). list_all (differ (value_at c.args.values.now) (place_of [] c.index-places-at.result)) (map (place_of []) ps) ≡ true) (rest_of c.args.places.now (c.loop-at.at + 1)) (sym c.differs_from.ensures ∙ found) in
    record {
      same = pairs_go_on (differ (value_at c.args.values.now)) c.args.places.now c.loop-at.at c.index-places-at.result c.loop-at-test.true c.index-places-at.is goes ∙ c.loop-at.invariant.same;
      left = few_after c.args.places.now c.loop-at.at c.index-places-at.result c.loop-at-test.true c.loop-at.invariant.left;
    }
