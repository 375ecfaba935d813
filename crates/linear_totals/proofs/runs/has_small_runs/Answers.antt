use Rattle.std.proofs.Common.{◌≡◌, ◌↔◌, IsTrue, ℕ, true, get_or, refl, sym, subst}
use Rattle.ground_model.specs.Sound.{is_small, coefficient}
use Rattle.linear_totals.proofs.RunLemmas.{runs_small, bound_first}
use Rattle.linear_totals.proofs.runs.has_small_runs.Goals as goal

pub returns : goal.returns
returns c =
    subst (λ b. IsTrue b ↔ ((x : ℕ) → is_small (coefficient x c.args.sorted.now) ≡ true)) (sym c.run_from.ensures)
    (runs_small (get_or c.args.sorted.now 0 c.index-sorted-0.result).0 c.args.sorted.now
    (bound_first (get_or c.args.sorted.now 0 c.index-sorted-0.result).0 c.args.sorted.now c.index-sorted-0.result refl c.requires.climb) c.requires.climb)
