-- The laws above the definitions.
use Rattle.std.proofs.Common.{◌≡◌, ◌-◌, ◌⊎◌, inl, inr, ℕ, zero, suc, ◌+◌, ◌<◌, Bool, true, false, ◌&&◌, ℤ, pos, ◌+ℤ◌, ◌≤ℤ◌, ◌<ℤ◌, int_lt, int_le, List, [], ◌∷◌, length, refl, sym, subst, true≢false, arith}
use Rattle.std.proofs.lemmas.Int.{ints}
use Rattle.definite_rules.specs.Least as definite
use Rattle.definite_rules.specs.Least.{flag_at, IsLeastModel}
use Rattle.ground_model.specs.declared.program.GroundProgram.{GroundProgram}
use Rattle.ground_model.specs.Derivable.{Derivable}
use Rattle.ground_model.specs.Model.{rules_with, IsModel}
use Rattle.ground_model.specs.Truth.{share}
use Rattle.ground_model.specs.Answers.{IsRuleOf}
use Rattle.ground_model.specs.World.{World, flagged_from}
use Rattle.ground_model.specs.Ways.{derivable}
use Rattle.ground_model.specs.Reduct.{reduct}
use Rattle.ground_model.specs.Laws.{RanksLaw, IsClosed, IsLeastClosed, MeetsRules, LeastLaw, DeterminedLaw, DefiniteLaw, TestsLaw, ShareLaw}
use Rattle.ground_model.proofs.Bools.{and_elim, and_intro, same_test}
use Rattle.ground_model.proofs.Ranks.{gives_up, rank_le, one_rank}
use Rattle.ground_model.proofs.Ranks as ranks
use Rattle.ground_model.proofs.WayLemmas.{derivable_from_test, test_from_derivable}
use Rattle.ground_model.proofs.ReductLemmas.{reduct_up, reduct_down, ways_counted}
use Rattle.ground_model.proofs.SizeLemmas.{readable_rules}
use Rattle.ground_model.proofs.AnswerLemmas.{derivable_numbered}
use Rattle.ground_model.proofs.LastRank.{last_rank, last_step, last_all}
use Rattle.ground_model.proofs.FlagLemmas.{flagged_only}
use Rattle.ground_model.proofs.DutyLemmas.{by_tests, to_tests}

pub ranks_law : RanksLaw
ranks_law program values model low high a le d = rank_le (rules_with (IsRuleOf program) values) model low high le a d

-- a closed set has what is derivable
in_closed : (program : GroundProgram) (values : ℕ → ℤ) (model set : ℕ → Bool) → IsClosed program values model set → (rank a : ℕ)
    → Derivable (rules_with (IsRuleOf program) values) model rank a → set a ≡ true
in_closed program values model set closed zero a d = absurd d
in_closed program values model set closed (suc rank) a d =
    closed a
    (gives_up (rules_with (IsRuleOf program) values) model (Derivable (rules_with (IsRuleOf program) values) model rank) (λ b. set b ≡ true)
    (in_closed program values model set closed rank) a d)

pub least_law : LeastLaw
least_law program values model = (there, back)
  where
    there : IsModel (IsRuleOf program) values model → MeetsRules program values model × IsLeastClosed program values model
    there stable = (stable.duties, record { closed = closed; least = below })
      where
        closed : IsClosed program values model model
        closed a gives =
            let g = gives_up (rules_with (IsRuleOf program) values) model (λ b. model b ≡ true) (ranks.IsDerivable (rules_with (IsRuleOf program) values) model) (λ b t. stable.derived b t) a gives in
            let d = ranks.derivable_from_some (rules_with (IsRuleOf program) values) model a g in
            stable.closed a d.0 d.1

        below : (set : ℕ → Bool) → IsClosed program values model set → (a : ℕ) → model a ≡ true → set a ≡ true
        below set closed a t = let d = stable.derived a t in in_closed program values model set closed d.0 a d.1

    back : MeetsRules program values model × IsLeastClosed program values model → IsModel (IsRuleOf program) values model
    back given = record {
      derived = derived;
      closed = λ a rank d. in_closed program values model model given.1.closed rank a d;
      duties = given.0;
    }
      where
        closed : IsClosed program values model (derivable program.rules (record { atoms = model; values = values }) (last_rank program.rules (record { atoms = model; values = values })))
        closed a gives =
            let world : World = record { atoms = model; values = values } in
            let last = last_rank program.rules world in
            last_step program.rules world a
            (test_from_derivable program.symbols program.rules world (suc last) a
            (gives_up (rules_with (IsRuleOf program) values) model (λ b. derivable program.rules world last b ≡ true) (Derivable (rules_with (IsRuleOf program) values) model last)
            (derivable_from_test program.symbols program.rules world last) a gives))

        derived : (a : ℕ) → model a ≡ true → (rank : ℕ) × Derivable (rules_with (IsRuleOf program) values) model rank a
        derived a t =
            let world : World = record { atoms = model; values = values } in
            let last = last_rank program.rules world in
            (last, derivable_from_test program.symbols program.rules world last a (given.1.least (derivable program.rules world last) closed a t))

pub tests_law : TestsLaw
tests_law program world = (to_tests program.symbols program.rules world, by_tests program.symbols program.rules world)

-- what is derivable in one world is derivable in another with the same reduct
moved : (program : GroundProgram) (one other : World) → reduct program.rules one ≡ reduct program.rules other → (rank a : ℕ) → derivable program.rules one rank a ≡ true → derivable program.rules other rank a ≡ true
moved program one other same rank a e =
    let n =
    derivable_numbered (length program.atoms) (length program.variables) program.rules one
    (readable_rules (length program.symbols) (length program.atoms) (length program.variables) program.ends program.rules program.sound_rules) rank a e in
    reduct_down program.rules other
    (ways_counted (length program.symbols) (length program.atoms) (length program.variables) program.ends program.rules program.sound_rules) rank a n.above
    (subst (λ rules. definite.Derivable rules rank (a - 1)) same (reduct_up program.rules one rank a e))

pub determined_law : DeterminedLaw
determined_law program one other m k same a = same_test (one.atoms a) (other.atoms a) (across one other m k same) (across other one k m (sym same))
  where
    across : (x y : World) → IsModel (IsRuleOf program) x.values x.atoms → IsModel (IsRuleOf program) y.values y.atoms → reduct program.rules x ≡ reduct program.rules y
        → x.atoms a ≡ true → y.atoms a ≡ true
    across x y m k same t =
        let p = to_tests program.symbols program.rules x m in
        let q = to_tests program.symbols program.rules y k in
        let d = p.derived a t in
        q.closed a d.0 (moved program x y same d.0 a d.1)

-- flags of the numbers that pass a test, so many from this number on
flags_from : (ℕ → Bool) → ℕ → ℕ → List Bool
flags_from test first zero = []
flags_from test first (suc n) = test first ∷ flags_from test (suc first) n

flag_passes : (test : ℕ → Bool) (first n k : ℕ) → flag_at (flags_from test first n) k ≡ true → test (first + k) ≡ true
unfolding flags_from
flag_passes test first zero k e = absurd (true≢false (sym e))
flag_passes test first (suc n) zero e = let s : first ≡ first + zero = omega arith in subst (λ m. test m ≡ true) s e
flag_passes test first (suc n) (suc k) e = let s : suc first + k ≡ first + suc k = omega arith in subst (λ m. test m ≡ true) s (flag_passes test (suc first) n k e)

passing_flag : (test : ℕ → Bool) (first n k : ℕ) → k < n → test (first + k) ≡ true → flag_at (flags_from test first n) k ≡ true
unfolding flags_from
passing_flag test first zero k below e = absurd (omega arith)
passing_flag test first (suc n) zero below e = let s : first + zero ≡ first = omega arith in subst (λ m. test m ≡ true) s e
passing_flag test first (suc n) (suc k) below e =
    let s : first + suc k ≡ suc first + k = omega arith in passing_flag test (suc first) n k (omega arith) (subst (λ m. test m ≡ true) s e)

pub definite_law : DefiniteLaw
definite_law program given =
    let world : World = record { atoms = λ a. false; values = λ x. pos 0 } in
    let last = last_rank program.rules world in
    let flags = flags_from (derivable program.rules world last) 1 (length program.atoms) in
    (record { atoms = flagged_from 1 flags; values = [] }, flagged_only program world flags given (least world))
  where
    least : (world : World) → IsLeastModel (reduct program.rules world) (flags_from (derivable program.rules world (last_rank program.rules world)) 1 (length program.atoms))
    least world = record { derived = derived; closed = closed }
      where
        derived : (k : ℕ) → flag_at (flags_from (derivable program.rules world (last_rank program.rules world)) 1 (length program.atoms)) k ≡ true
            → (rank : ℕ) × definite.Derivable (reduct program.rules world) rank k
        derived k e =
            let last = last_rank program.rules world in
            let s : (1 + k) - 1 ≡ k = omega arith in (
              last,
              subst (definite.Derivable (reduct program.rules world) last) s
                  (reduct_up program.rules world last (1 + k) (flag_passes (derivable program.rules world last) 1 (length program.atoms) k e)),
            )

        closed : (k rank : ℕ) → definite.Derivable (reduct program.rules world) rank k
            → flag_at (flags_from (derivable program.rules world (last_rank program.rules world)) 1 (length program.atoms)) k ≡ true
        closed k rank d =
            let last = last_rank program.rules world in
            let s : k ≡ (1 + k) - 1 = omega arith in
            let e =
            reduct_down program.rules world
            (ways_counted (length program.symbols) (length program.atoms) (length program.variables) program.ends program.rules program.sound_rules)
            rank (1 + k) (omega arith) (subst (definite.Derivable (reduct program.rules world) rank) s d) in
            let n =
            derivable_numbered (length program.atoms) (length program.variables) program.rules world
            (readable_rules (length program.symbols) (length program.atoms) (length program.variables) program.ends program.rules program.sound_rules) rank (1 + k) e in
            let known = n.known in
            passing_flag (derivable program.rules world last) 1 (length program.atoms) k (omega arith) (last_all program.rules world rank (1 + k) e)

pub share_law : ShareLaw
share_law a d b e = (there, back)
  where
    pick : (a ≤ℤ b) ⊎ (b ≤ℤ a) → (pos 0 <ℤ d) → (pos 0 <ℤ e) → (a <ℤ (b +ℤ e)) → (b <ℤ (a +ℤ d))
        → (k : ℤ) × (a ≤ℤ k) × (k <ℤ (a +ℤ d)) × (b ≤ℤ k) × (k <ℤ (b +ℤ e))
    pick (inl le) x y p q = (b, le, q, omega (arith, ints), omega (arith, ints))
    pick (inr le) x y p q = (a, omega (arith, ints), omega (arith, ints), le, p)

    order : (t : Bool) → int_le a b ≡ t → (a ≤ℤ b) ⊎ (b ≤ℤ a)
    order true f = inl (grind (arith, ints))
    order false f = inr (grind (arith, ints))

    there : share a d b e ≡ true → (k : ℤ) × (a ≤ℤ k) × (k <ℤ (a +ℤ d)) × (b ≤ℤ k) × (k <ℤ (b +ℤ e))
    there t =
        let p = and_elim (int_lt (pos 0) d && int_lt (pos 0) e && int_lt a (b +ℤ e)) (int_lt b (a +ℤ d)) t in
        let q = and_elim (int_lt (pos 0) d && int_lt (pos 0) e) (int_lt a (b +ℤ e)) p.0 in
        let r = and_elim (int_lt (pos 0) d) (int_lt (pos 0) e) q.0 in
        pick (order (int_le a b) refl) (less (pos 0) d r.0) (less (pos 0) e r.1) (less a (b +ℤ e) q.1) (less b (a +ℤ d) p.1)
      where
        less : (x y : ℤ) → int_lt x y ≡ true → x <ℤ y
        less x y f = grind (arith, ints)

    back : ((k : ℤ) × (a ≤ℤ k) × (k <ℤ (a +ℤ d)) × (b ≤ℤ k) × (k <ℤ (b +ℤ e))) → share a d b e ≡ true
    back s =
        let w = s.1 in let x = s.2 in let y = s.3 in let z = s.4 in
        and_intro (int_lt (pos 0) d && int_lt (pos 0) e && int_lt a (b +ℤ e)) (int_lt b (a +ℤ d))
        (and_intro (int_lt (pos 0) d && int_lt (pos 0) e) (int_lt a (b +ℤ e))
        (and_intro (int_lt (pos 0) d) (int_lt (pos 0) e) (test (pos 0) d (omega (arith, ints))) (test (pos 0) e (omega (arith, ints))))
        (test a (b +ℤ e) (omega (arith, ints)))) (test b (a +ℤ d) (omega (arith, ints)))
      where
        test : (x y : ℤ) → x <ℤ y → int_lt x y ≡ true
        test x y f = grind (arith, ints)
