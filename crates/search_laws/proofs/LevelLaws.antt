-- Nothing is left to propagate below the open level: as levels are opened, as the trail grows, and as it is undone.
use Rattle.std.proofs.Common.{◌⊎◌, inl, inr, ◌≡◌, ℕ, ◌+◌, ◌<◌, ◌≤◌, nat_le, Bool, true, false, cond, List, [], ◌∷◌, ◌++◌, get_or, refl, sym, ◌∙◌, ap, subst, arith, append-nil}
use Rattle.std.specs.List.{All, AllByRecursion, filter}
use Rattle.std.proofs.lemmas.Bool.Decides.{nat_tests}
use Rattle.std.proofs.lemmas.List.Elements.{filter-append}
use Rattle.literals.specs.declared.lit.Lit.{Lit}
use Rattle.literals.specs.declared.lit.Lit.TheVariants.{Constraint}
use Rattle.trail.specs.declared.entry.Entry.{Entry}
use Rattle.trail.specs.Assignment.{Assignment, IsAssignment, undone_to, with_entry, lits_of, is_true_on, truth_on}
use Rattle.trail.specs.Implied.{implied, truth_of, lower_of, upper_of}
use Rattle.trail.specs.Growth.{Grows, EachNext}
use Rattle.trail.proofs.AssignmentLaws.{undone_all}
use Rattle.trail.proofs.GrowthLaws.{grows_entries, grows_shape, grows_level}
use Rattle.nogood_store.specs.Holding.{Held}
use Rattle.nogood_store.specs.Propagation.{IsQuiet}
use Rattle.conflict_analysis.specs.Levels.{IsAsserting}
use Rattle.propagator_core.specs.declared.touch.Touch.{Touch}
use Rattle.propagator_core.specs.declared.touch.Touch.TheVariants.{Bounds, Truth}
use Rattle.propagator_core.specs.Touching.{SameOf, SameOfAll}
use Rattle.propagator_core.specs.Meaning.{Meaning}
use Rattle.propagator_core.specs.Quiet.{IsSteady}
use Rattle.trail_worlds.specs.Calm.{IsCalm}
use Rattle.search_laws.specs.Levels.{IsCalmBelow}
use Rattle.search_laws.proofs.QuietLaws.{learned_quiet}

-- GOING BACK TWICE

filter_twice : (low high : ℕ) (es : List Entry) → low ≤ high → filter (λ e. nat_le e.level low) (filter (λ e. nat_le e.level high) es) ≡ filter (λ e. nat_le e.level low) es
filter_twice low high [] le = refl
filter_twice low high (e ∷ es) le = by_high (nat_le e.level high) refl (filter_twice low high es le)
  where
    by_high : (b : Bool) → nat_le e.level high ≡ b → filter (λ x. nat_le x.level low) (filter (λ x. nat_le x.level high) es) ≡ filter (λ x. nat_le x.level low) es
        → filter (λ x. nat_le x.level low) (cond b (e ∷ filter (λ x. nat_le x.level high) es) (filter (λ x. nat_le x.level high) es)) ≡ filter (λ x. nat_le x.level low) (e ∷ es)
    by_high true h rest = ap (λ xs. cond (nat_le e.level low) (e ∷ xs) xs) rest
    by_high false h rest = let out : nat_le e.level low ≡ false = grind (arith, nat_tests, h, le) in rest ∙ (rw out refl)

-- going back twice is going back to the lower level
pub undone_twice : (t : Assignment) (low high : ℕ) → low ≤ high → undone_to low (undone_to high t) ≡ undone_to low t
undone_twice t low high le = ap (λ es. record t { level = low; entries = es }) (filter_twice low high t.entries le)

-- TRAILS OF THE SAME ENTRIES

-- the two trails have one shape and the same entries
record IsLike (t u : Assignment) : Type 0 where
  pub shape : u.shape ≡ t.shape
  pub entries : u.entries ≡ t.entries

same_of : (t u : Assignment) → IsLike t u → (touch : Touch) → SameOf t u touch
same_of t u e (Bounds x) = (
  ap (λ s. lower_of s.ends (lits_of u.entries) x) e.shape ∙ ap (λ es. lower_of t.shape.ends (lits_of es) x) e.entries,
  ap (λ s. upper_of s.ends (lits_of u.entries) x) e.shape ∙ ap (λ es. upper_of t.shape.ends (lits_of es) x) e.entries,
)
same_of t u e (Truth c) = (like_true (Constraint c true), like_true (Constraint c false))
  where
    like_true : (l : Lit) → is_true_on u l ≡ is_true_on t l
    like_true l = ap (λ s. implied s.ends (lits_of u.entries) l) e.shape ∙ ap (λ es. implied t.shape.ends (lits_of es) l) e.entries

same_of_all : (t u : Assignment) → IsLike t u → (touches : List Touch) → SameOfAll t u touches
same_of_all t u e [] = tt
same_of_all t u e (touch ∷ touches) = (same_of t u e touch, same_of_all t u e touches)

like_truth : (t u : Assignment) → IsLike t u → (l : Lit) → truth_on u l ≡ truth_on t l
like_truth t u e l = ap (λ s. truth_of s.ends (lits_of u.entries) l) e.shape ∙ ap (λ es. truth_of t.shape.ends (lits_of es) l) e.entries

like_is : (t u : Assignment) → IsLike t u → (l : Lit) → is_true_on u l ≡ is_true_on t l
like_is t u e l = ap (λ s. implied s.ends (lits_of u.entries) l) e.shape ∙ ap (λ es. implied t.shape.ends (lits_of es) l) e.entries

like_quiet : (t u : Assignment) (lits : List Lit) → IsLike t u → IsQuiet t lits → IsQuiet u lits
like_quiet t u lits e q = record {
  not_met = λ all. q.not_met (λ l c. sym (like_is t u e l) ∙ all l c);
  not_unit = λ l unit. q.not_unit l (record {
    among = unit.among;
    is_open = sym (like_truth t u e l) ∙ unit.is_open;
    others = λ m c. by_case m (unit.others m c);
  });
}
  where
    by_case : {l : Lit} (m : Lit) → (m ≡ l) ⊎ (is_true_on u m ≡ true) → (m ≡ l) ⊎ (is_true_on t m ≡ true)
    by_case m (inl same) = inl same
    by_case m (inr is) = inr (sym (like_is t u e m) ∙ is)

all_like : (t u : Assignment) (held : List Held) → IsLike t u → AllByRecursion (λ h. IsQuiet t h.nogood) held → AllByRecursion (λ h. IsQuiet u h.nogood) held
all_like t u [] e a = tt
all_like t u (h ∷ hs) e a = (like_quiet t u h.nogood e a.0, all_like t u hs e a.1)

pub calm_like : (held : List Held) (ms : List Meaning) (t u : Assignment) → u.shape ≡ t.shape → u.entries ≡ t.entries → All IsSteady ms → IsCalm held ms t → IsCalm held ms u
calm_like held ms t u shape entries steady calm =
    let e : IsLike t u = record { shape = shape; entries = entries } in
    record {
      nogoods = all_like t u held e calm.nogoods;
      rest = λ k d lt. (steady k d lt).lasts t u shape (same_of_all t u e (get_or ms k d).touches) (calm.rest k d lt);
    }

-- LEVELS

-- a level is opened where nothing is left to propagate
pub calm_opened : (held : List Held) (ms : List Meaning) (t : Assignment) → IsAssignment t → All IsSteady ms → IsCalm held ms t → IsCalmBelow held ms t → IsCalmBelow held ms (record t { level = t.level + 1 })
calm_opened held ms t is steady calm below level lt = by_level (split level t.level lt)
  where
    split : (a b : ℕ) → a < b + 1 → (a < b) ⊎ (a ≡ b)
    split a b h = grind arith

    by_level : (level < t.level) ⊎ (level ≡ t.level) → IsCalm held ms (undone_to level t)
    by_level (inl less) = below level less
    by_level (inr same) = calm_like held ms t (undone_to level t) refl (undone_all t level is (omega (arith, same))) steady calm

high_gone : (P : Assignment → Entry → Type 0) (t : Assignment) (es : List Entry) (level : ℕ) → level < t.level → EachNext P t es → filter (λ e. nat_le e.level level) es ≡ []
high_gone P t [] level lt n = refl
high_gone P t (e ∷ es) level lt n =
    let at = n.0.level in
    let out : nat_le e.level level ≡ false = grind (arith, nat_tests, at, lt) in
    rw out (high_gone P (with_entry t e) es level lt n.2)

-- entries are added at the open level
pub calm_grown : (P : Assignment → Entry → Type 0) (held : List Held) (ms : List Meaning) (t u : Assignment) → All IsSteady ms → Grows P t u → IsCalmBelow held ms t → IsCalmBelow held ms u
calm_grown P held ms t u steady g below level lt =
    let less : level < t.level = subst (λ n. level < n) (grows_level P t u g) lt in
    calm_like held ms (undone_to level t) (undone_to level u) (grows_shape P t u g)
    (ap (filter (λ e. nat_le e.level level)) (grows_entries P t u g) ∙ filter-append (λ e. nat_le e.level level) t.entries g.more
    ∙ ap (λ es. filter (λ e. nat_le e.level level) t.entries ++ es) (high_gone P t g.more level less g.each) ∙ append-nil (filter (λ e. nat_le e.level level) t.entries))
    steady (below level less)

-- the search goes back to a lower level
pub calm_undone : (held : List Held) (ms : List Meaning) (t : Assignment) (level : ℕ) → level ≤ t.level → IsCalmBelow held ms t → IsCalmBelow held ms (undone_to level t)
calm_undone held ms t level le below low lt = subst (IsCalm held ms) (sym (undone_twice t low level (omega (arith, lt)))) (below low (omega (arith, lt, le)))

all_push : {X : Type 0} (P : X → Type 0) (xs : List X) (x : X) → AllByRecursion P xs → P x → AllByRecursion P (xs ++ x ∷ [])
all_push P [] x a p = (p, tt)
all_push P (y ∷ ys) x a p = (a.0, all_push P ys x a.1 p)

-- and holds there what was learned, for which it need go back no lower
pub calm_learned : (held : List Held) (ms : List Meaning) (t : Assignment) (h : Held) (level back : ℕ) → IsAssignment t → level ≤ t.level → back ≤ level → IsAsserting t h.nogood level → IsCalmBelow held ms t → IsCalmBelow (held ++ h ∷ []) ms (undone_to back t)
calm_learned held ms t h level back is le under asserting below low lt =
    let calm : IsCalm held ms (undone_to low (undone_to back t)) = calm_undone held ms t back (omega (arith, le, under)) below low lt in
    record {
      nogoods = all_push (λ g. IsQuiet (undone_to low (undone_to back t)) g.nogood) held h calm.nogoods
          (subst (λ u. IsQuiet u h.nogood) (sym (undone_twice t low back (omega (arith, lt)))) (learned_quiet t h.nogood level low is asserting (omega (arith, lt, under))));
      rest = calm.rest;
    }
