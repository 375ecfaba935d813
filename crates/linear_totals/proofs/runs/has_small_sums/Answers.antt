use Rattle.std.proofs.Common.{◌≡◌, ◌+◌, ℕ, ℤ, All, true, get_or, sym, ◌∙◌, ap, subst, rules, arith}
use Rattle.std.specs.List.Sorted.{IsSortedBy}
use Rattle.std.specs.Ordering.{is_lt, nat_cmp}
use Rattle.std.proofs.lemmas.Cmp.{nat_cmp_total, on_total}
use Rattle.std.proofs.lemmas.Fn.{always_returns_same}
use Rattle.std.proofs.lemmas.List.Sorted.{ranks_by, All-permutation}
use Rattle.ground_model.specs.Sound.{is_small, coefficient}
use Rattle.linear_normal.proofs.JoinLemmas.{coefficient_permuted}
use Rattle.linear_totals.specs.inner.Sums.{Climb}
use Rattle.linear_totals.proofs.RunLemmas.{climb_from, not_less}
use Rattle.linear_totals.proofs.runs.has_small_sums.Goals as goal

pub has_small_runs-requires-clause-climb : goal.has_small_runs-requires-clause-climb
has_small_runs-requires-clause-climb c =
    let sorted : IsSortedBy (λ (x y : ℕ × ℤ). is_lt (nat_cmp x.0 y.0)) c.sort_unstable_by.new.self.items =
    c.sort_unstable_by.ensures.sorted (λ (x y : ℕ × ℤ). is_lt (nat_cmp x.0 y.0)) (ranks_by (on_total (λ (p : ℕ × ℤ). p.0) nat_cmp_total) (λ x. x))
    (always_returns_same _ _ _ (λ a r f called. search rules)) in
    subst Climb (sym c.deref.ensures.value)
    (climb_from c.sort_unstable_by.new.self.items
    (λ k d below. not_less (get_or c.sort_unstable_by.new.self.items (k + 1) d).0 (get_or c.sort_unstable_by.new.self.items k d).0 (sorted k d (omega arith) below)))

pub has_small_runs-requires-clause-small : goal.has_small_runs-requires-clause-small
has_small_runs-requires-clause-small c =
    subst (All (λ (p : ℕ × ℤ). is_small p.1 ≡ true)) (sym c.deref.ensures.value)
    (All-permutation (λ (p : ℕ × ℤ). is_small p.1 ≡ true) c.args.all.items c.sort_unstable_by.new.self.items c.sort_unstable_by.ensures.permutation c.requires)

pub returns : goal.returns
returns c =
    let same : (x : ℕ) → coefficient x c.deref.result.now ≡ coefficient x c.args.all.items =
    (λ x. ap (coefficient x) c.deref.ensures.value ∙ coefficient_permuted x c.args.all.items c.sort_unstable_by.new.self.items c.sort_unstable_by.ensures.permutation) in (
      (λ t x. ap is_small (sym (same x)) ∙ c.has_small_runs.ensures.0 t x),
      (λ h. c.has_small_runs.ensures.1 (λ x. ap is_small (same x) ∙ h x)),
    )
