-- Where each atom on a cycle that is not false has a source that is not false, no set is unfounded.
use Rattle.std.proofs.Common.{◌≡◌, inl, inr, ℕ, zero, suc, ◌<◌, Bool, true, false, not, ◌==◌, List, [], ◌∷◌, slice_index, refl, sym, ◌∙◌, ap, subst, arith}
use Rattle.std.specs.List.{AllByRecursion, list_any}
use Rattle.literals.specs.declared.lit.Lit.TheVariants as l
use Rattle.ground_model.specs.declared.program.GroundProgram.{GroundProgram}
use Rattle.ground_model.specs.Answers.{IsNumbered}
use Rattle.ground_model.specs.Members.{IsMember}
use Rattle.ground_model.proofs.Bools.{and_intro, or_left, conflict}
use Rattle.ground_model.proofs.MemberLemmas.{same_nat, member_any, property_member, contains_member}
use Rattle.linear_normal.specs.declared.numbered.Support.{Support}
use Rattle.linear_normal.specs.Numbering.{numbering}
use Rattle.linear_normal.specs.Steps.{is_among}
use Rattle.linear_normal.proofs.ListLemmas.{among_member}
use Rattle.trail.specs.Assignment.{Assignment, is_true_on}
use Rattle.trail_worlds.specs.Founded.{IsUnfounded, AreOpenOrTrue}
use Rattle.unfounded_sets.specs.Dependence.{Dependence, row_of, dependence_of, Fits}
use Rattle.unfounded_sets.specs.Loops.{IsLoopFree, AreSupported}
use Rattle.unfounded_sets.specs.inner.Outer.{IsWhole}
use Rattle.unfounded_sets.specs.inner.Sources.{IsLower, AreLower, IsGrouped, IsSourced, Stands}
use Rattle.unfounded_sets.proofs.FoundedLemmas.{outer_false, open_atom}

module _ (d : Dependence) (t : Assignment) (whole : IsWhole d) (fits : Fits d t.shape) (supported : AreSupported d t) (level rank cyclic source : List ℕ)
    (grouped : AllByRecursion (IsGrouped d.bodies level cyclic) d.supports) (sourced : AllByRecursion (IsSourced d.bodies d.supports level rank source) cyclic)
    (stands : AllByRecursion (Stands t source) cyclic) where
  module _ (program : GroundProgram) (same : d ≡ dependence_of program) (set : List ℕ) (all : AreOpenOrTrue t set) (unfounded : IsUnfounded (numbering program) t set) where
    -- a body that is not false and supports an atom of the set has an atom of it
    inside : (s : Support) → IsMember d.supports s → is_among set s.atom ≡ true → is_true_on t (l.Body s.body false) ≡ false → list_any (is_among set) (row_of d.bodies s.body) ≡ true
    inside s m e f = go (list_any (is_among set) (row_of d.bodies s.body)) refl
      where
        go : (b : Bool) → list_any (is_among set) (row_of d.bodies s.body) ≡ b → list_any (is_among set) (row_of d.bodies s.body) ≡ true
        go true g = g
        go false g =
            conflict (is_true_on t (l.Body s.body false))
            (outer_false d t whole fits program same set unfounded s m (and_intro (is_among set s.atom) (not (list_any (is_among set) (row_of d.bodies s.body))) e (ap not g))) f

    -- so there is one that stands lower
    by_support : (a : ℕ) (s : Support) → IsMember d.supports s → s.atom ≡ a → is_among set a ≡ true → is_true_on t (l.Body s.body false) ≡ false → AreLower level rank a (row_of d.bodies s.body)
        → (b : ℕ) × (is_among set b ≡ true) × IsLower level rank b a
    by_support a s m same_atom e f lower =
        let x = member_any (is_among set) (row_of d.bodies s.body) (inside s m (ap (is_among set) same_atom ∙ e) f) in
        (x.0, x.2, property_member (λ b. IsLower level rank b a) (row_of d.bodies s.body) x.0 lower x.1)

    below : (a : ℕ) (xs : List ℕ) → AllByRecursion (λ b. slice_index level b < slice_index level a) xs → AreLower level rank a xs
    below a [] h = tt
    below a (x ∷ xs) h = (inl h.0, below a xs h.1)

    lower : (a : ℕ) → is_among set a ≡ true → (b : ℕ) × (is_among set b ≡ true) × IsLower level rank b a
    lower a e = go (is_among cyclic a) refl
      where
        is : IsNumbered d.atoms a × (is_true_on t (l.Atom a false) ≡ false)
        is = open_atom d t whole fits set all a e

        by_source : IsSourced d.bodies d.supports level rank source a → Stands t source a → (b : ℕ) × (is_among set b ≡ true) × IsLower level rank b a
        by_source (inl z) (inl s) = let one = s.0 in absurd (omega (arith, z, one))
        by_source (inl z) (inr f) = conflict (is_true_on t (l.Atom a false)) f is.1
        by_source (inr p) (inl s) = by_support a (record { atom = a; body = slice_index source a }) (contains_member d.supports (record { atom = a; body = slice_index source a }) p.0) refl e s.1 p.1
        by_source (inr p) (inr f) = conflict (is_true_on t (l.Atom a false)) f is.1

        by_group : (s : Support) → IsMember d.supports s → s.atom ≡ a → is_true_on t (l.Body s.body false) ≡ false → is_among cyclic a ≡ false → IsGrouped d.bodies level cyclic s
            → (b : ℕ) × (is_among set b ≡ true) × IsLower level rank b a
        by_group s m same_atom f g (inl c) = conflict (is_among cyclic a) (ap (is_among cyclic) (sym same_atom) ∙ c) g
        by_group s m same_atom f g (inr h) =
            by_support a s m same_atom e f (below a (row_of d.bodies s.body) (subst (λ x. AllByRecursion (λ b. slice_index level b < slice_index level x) (row_of d.bodies s.body)) same_atom h))

        go : (b : Bool) → is_among cyclic a ≡ b → (b : ℕ) × (is_among set b ≡ true) × IsLower level rank b a
        go true g =
            by_source (property_member (IsSourced d.bodies d.supports level rank source) cyclic a sourced (among_member cyclic a g)) (property_member (Stands t source) cyclic a stands (among_member cyclic a g))
        go false g =
            let s = supported a is.0 is.1 in
            let m = contains_member d.supports s.0 s.1 in
            by_group s.0 m s.2 s.3 g (property_member (IsGrouped d.bodies level cyclic) d.supports s.0 grouped m)

    -- no atom of the set stands below any level
    none_ranked : (n : ℕ) → ((a : ℕ) → is_among set a ≡ true → slice_index level a < n → ⊥) → (m a : ℕ) → is_among set a ≡ true → slice_index level a < suc n → slice_index rank a < m → ⊥
    none_ranked n rec zero a e h k = omega (arith, k)
    none_ranked n rec (suc m) a e h k = go (lower a e) (λ b f i j. none_ranked n rec m b f i j)
      where
        go : (b : ℕ) × (is_among set b ≡ true) × IsLower level rank b a → ((b : ℕ) → is_among set b ≡ true → slice_index level b < suc n → slice_index rank b < m → ⊥) → ⊥
        go x next = cases x.0 x.1 x.2
          where
            cases : (b : ℕ) → is_among set b ≡ true → IsLower level rank b a → ⊥
            cases b f (inl i) = rec b f (omega (arith, h, i))
            cases b f (inr i) = let same_level = i.0 in let less = i.1 in next b f (omega (arith, h, same_level)) (omega (arith, k, less))

    none_below : (n a : ℕ) → is_among set a ≡ true → slice_index level a < n → ⊥
    none_below zero a e h = omega (arith, h)
    none_below (suc n) a e h = none_ranked n (λ b f i. none_below n b f i) (suc (slice_index rank a)) a e h (omega arith)

  pub sources_free : IsLoopFree d t
  sources_free program same a rest all unfounded =
      none_below program same (a ∷ rest) all unfounded (suc (slice_index level a)) a (or_left (a == a) (is_among rest a) (same_nat a a refl)) (omega arith)
