use Rattle.std.proofs.Common.{◌≡◌, ℕ, true, ◌+◌, ℤ, List, get_or, IfOk, sym, ◌∙◌, ap, subst, arith}
use Rattle.ground_model.specs.Sound.{is_small, coefficient}
use Rattle.linear_normal.specs.inner.Sums.{Climbs, nonzero_pairs}
use Rattle.linear_normal.proofs.JoinLemmas.{firsts_in_order, climbs_from, coefficient_permuted, sound_permuted, first_above}
use Rattle.linear_normal.proofs.MovedLemmas.{nonzero_alike}
use Rattle.linear_normal.proofs.joined.joined.Goals as goal

pub join_sorted-requires-clause-climbs : goal.join_sorted-requires-clause-climbs
join_sorted-requires-clause-climbs c =
    let sorted : List (ℕ × ℤ) = c.sort_unstable.new.self.items in
    let sound = sound_permuted c.args.variables c.args.pairs.items c.sort_unstable.new.self.items c.sort_unstable.ensures.permutation c.requires.pairs in
    subst (Climbs 1 c.args.variables) (sym c.deref.ensures.value)
    (climbs_from c.args.variables 1 c.sort_unstable.new.self.items sound
    (λ k d below. firsts_in_order (get_or c.sort_unstable.new.self.items (k + 1) d) (get_or c.sort_unstable.new.self.items k d) (c.sort_unstable.ensures.sorted k d (omega arith) below))
    (λ d below. first_above c.args.variables c.sort_unstable.new.self.items d sound below))

pub join_sorted-requires-clause-small : goal.join_sorted-requires-clause-small
join_sorted-requires-clause-small c =
    subst (λ (ps : List (ℕ × ℤ)). (x : ℕ) → is_small (coefficient x ps) ≡ true) (sym c.deref.ensures.value)
    (λ x. ap is_small (coefficient_permuted x c.args.pairs.items c.sort_unstable.new.self.items c.sort_unstable.ensures.permutation) ∙ c.requires.small x)

pub returns : goal.returns
returns c =
    let same : nonzero_pairs c.args.variables (λ x. coefficient x c.deref.result.now) ≡ nonzero_pairs c.args.variables (λ x. coefficient x c.args.pairs.items) =
    nonzero_alike c.args.variables (λ x. coefficient x c.deref.result.now) (λ x. coefficient x c.args.pairs.items)
    (λ x. ap (coefficient x) c.deref.ensures.value ∙ coefficient_permuted x c.args.pairs.items c.sort_unstable.new.self.items c.sort_unstable.ensures.permutation) in
    subst (λ (ps : List (ℕ × ℤ)). IfOk c.join_sorted.result (λ found. found ≡ ps)) same c.join_sorted.ensures
