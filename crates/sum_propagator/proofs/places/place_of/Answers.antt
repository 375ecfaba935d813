use Rattle.std.proofs.Common.{rules, ◌≡◌, ℕ, ◌<◌, Option, length, get_or, IfSome, IfNone, subst, sym}
use Rattle.std.proofs.lemmas.List.Sorted.{answers_always}
use Rattle.linear_normal.specs.declared.constraint.Item.{Item}
use Rattle.sum_propagator.specs.Moves.{key_in, Lacks}
use Rattle.sum_propagator.proofs.Following.{found_at, place_some, place_none}
use Rattle.sum_propagator.proofs.places.place_of.Goals as goal

pub returns-clause-some : goal.returns-clause-some
returns-clause-some c =
    let facts = c.binary_search_by_key.ensures in
    let by_key = facts.position key_in (answers_always _ _ _ (λ f a r g called. search rules)) in
    let found = found_at c.args.items.now c.args.key c.binary_search_by_key.result c.requires facts.bound by_key in
    subst (λ (o : Option ℕ). IfSome o (λ at. (at < length c.args.items.now) × ((d : Item) → key_in (get_or c.args.items.now at d) ≡ c.args.key))) (sym c.ok.ensures.value) (place_some c.args.items.now c.args.key c.binary_search_by_key.result found.0)

pub returns-clause-none : goal.returns-clause-none
returns-clause-none c =
    let facts = c.binary_search_by_key.ensures in
    let by_key = facts.position key_in (answers_always _ _ _ (λ f a r g called. search rules)) in
    let found = found_at c.args.items.now c.args.key c.binary_search_by_key.result c.requires facts.bound by_key in
    subst (λ (o : Option ℕ). IfNone o (Lacks c.args.items.now c.args.key)) (sym c.ok.ensures.value) (place_none c.args.items.now c.args.key c.binary_search_by_key.result found.1)
