-- The variables of a rule's order are not more than the text shows.
use Rattle.std.proofs.Common.{◌≡◌, ◌≤◌, ℕ, zero, suc, ◌==◌, Bool, true, false, if◌then◌else◌, bytes_eq, List, [], ◌∷◌, length, filter_map, ◌⊎◌, inl, inr, refl, sym, ◌∙◌, ap, subst, true≢false, arith}
use Rattle.std.specs.List.{list_any}
use Rattle.std.proofs.lemmas.Slice.Eq.{bytes_eq-Decides}
use Rattle.ground_model.proofs.Bools.{or_elim, or_left, or_right}
use Rattle.ground_model.proofs.MemberLemmas.{same_nat}
use Rattle.syntax_tree.specs.declared.rule.Name.{Name}
use Rattle.grammar.specs.declared.check.Check.TheVariants.{TooManyVariables}
use Rattle.grammar.specs.declared.check.Failing.{Failing}
use Rattle.grammar.specs.Sight.{Sight, Sighting, of_variable, of_anonymous, of_interval, of_atom}
use Rattle.grammar.specs.Tree.{number_of}
use Rattle.grammar.specs.Check.{fails, is_among, new_variables, past, too_many}
use Rattle.rewriting.specs.declared.sight.Sight.{Sight as TreeSight}
use Rattle.rewriting.specs.declared.sight.Sight.TheVariants.{Variable, Anonymous, Interval, Atom}
use Rattle.rewriting.specs.Order.{variable_in, firsts, order_in}
use Rattle.seen_forms.specs.Seen.{IsSeenAs, AreSeenAs}

abbrev has : List ℕ → ℕ → Bool
has before n = list_any (λ m. m == n) before

module _ (names : List Name) where
  -- the names that were seen have their numbers among those before
  abbrev Covers : List (List ℕ) → List ℕ → Type 0
  Covers known before = (name : List ℕ) → is_among known name ≡ true → has before (number_of names name) ≡ true

  abbrev Fewer : List Sighting → List TreeSight → Type 0
  Fewer sights others = (known : List (List ℕ)) (before : List ℕ) → Covers known before → length (firsts before (filter_map variable_in others)) ≤ length (new_variables known sights)

  wider : (known : List (List ℕ)) (before : List ℕ) (n : ℕ) → Covers known before → Covers known (n ∷ before)
  wider known before n covers name h = or_right (n == number_of names name) (has before (number_of names name)) (covers name h)

  with_known : (known : List (List ℕ)) (before : List ℕ) (name : List ℕ) → Covers known before → has before (number_of names name) ≡ true → Covers (name ∷ known) before
  with_known known before name covers here other h = by (or_elim (bytes_eq name other) (is_among known other) h)
    where
      by : (bytes_eq name other ≡ true) ⊎ (is_among known other ≡ true) → has before (number_of names other) ≡ true
      by (inl e) = subst (λ (x : List ℕ). has before (number_of names x) ≡ true) ((bytes_eq-Decides name other).0 e) here
      by (inr k) = covers other k

  module _ (at : ℕ) (sights : List Sighting) (others : List TreeSight) (rest : Fewer sights others) where
    -- one that is new in the text
    one_more : (n : ℕ) (known : List (List ℕ)) (before : List ℕ) → Covers known before
        → length (firsts before (n ∷ filter_map variable_in others)) ≤ length (at ∷ new_variables known sights)
    one_more n known before covers = by (has before n) (rest known before covers) (rest known (n ∷ before) (wider known before n covers))
      where
        by : (b : Bool) → length (firsts before (filter_map variable_in others)) ≤ length (new_variables known sights)
            → length (firsts (n ∷ before) (filter_map variable_in others)) ≤ length (new_variables known sights)
            → length (if b then firsts before (filter_map variable_in others) else n ∷ firsts (n ∷ before) (filter_map variable_in others)) ≤ length (at ∷ new_variables known sights)
        by true h k = omega (arith, h)
        by false h k = omega (arith, k)

    name_more : (name : List ℕ) (n : ℕ) → n ≡ number_of names name → (known : List (List ℕ)) (before : List ℕ) → Covers known before
        → length (firsts before (n ∷ filter_map variable_in others)) ≤ length (if is_among known name then new_variables known sights else at ∷ new_variables (name ∷ known) sights)
    name_more name n is known before covers = by (is_among known name) refl (has before n) refl
      where
        by : (a : Bool) → is_among known name ≡ a → (b : Bool) → has before n ≡ b
            → length (if b then firsts before (filter_map variable_in others) else n ∷ firsts (n ∷ before) (filter_map variable_in others))
            ≤ length (if a then new_variables known sights else at ∷ new_variables (name ∷ known) sights)
        by true old true there = rest known before covers
        by true old false new = absurd (true≢false (sym (ap (has before) is ∙ covers name old) ∙ new))
        by false fresh true there =
            let h = rest (name ∷ known) before (with_known known before name covers (ap (has before) (sym is) ∙ there)) in
            omega (arith, h)
        by false fresh false new =
            let h = rest (name ∷ known) (n ∷ before)
            (with_known known (n ∷ before) name (wider known before n covers) (or_left (n == number_of names name) (has before (number_of names name)) (same_nat n (number_of names name) is))) in
            omega (arith, h)

    few_by : (sight : Sight) (other : TreeSight) → IsSeenAs names sight other → Fewer (record { sight = sight; at = at } ∷ sights) (other ∷ others)
    few_by (of_variable name) (Variable n) is known before covers = name_more name n is known before covers
    few_by (of_variable name) (Anonymous n) is known before covers = absurd is
    few_by (of_variable name) (Interval n) is known before covers = absurd is
    few_by (of_variable name) Atom is known before covers = absurd is
    few_by of_anonymous (Variable n) is known before covers = absurd is
    few_by of_anonymous (Anonymous n) is known before covers = one_more n known before covers
    few_by of_anonymous (Interval n) is known before covers = absurd is
    few_by of_anonymous Atom is known before covers = absurd is
    few_by of_interval (Variable n) is known before covers = absurd is
    few_by of_interval (Anonymous n) is known before covers = absurd is
    few_by of_interval (Interval n) is known before covers = one_more n known before covers
    few_by of_interval Atom is known before covers = absurd is
    few_by of_atom (Variable n) is known before covers = absurd is
    few_by of_atom (Anonymous n) is known before covers = absurd is
    few_by of_atom (Interval n) is known before covers = absurd is
    few_by of_atom Atom is known before covers = rest known before covers

  fewer : (sights : List Sighting) (others : List TreeSight) → AreSeenAs names sights others → Fewer sights others
  fewer [] [] h known before covers = omega arith
  fewer [] (o ∷ others) h known before covers = absurd h
  fewer (s ∷ sights) [] h known before covers = absurd h
  fewer (s ∷ sights) (o ∷ others) h known before covers = few_by s.at sights others (fewer sights others h.1) s.sight o h.0 known before covers

-- ---- at most 64
abbrev told : List ℕ → List Failing
told [] = []
told (at ∷ places) = fails TooManyVariables at

not_past : (n : ℕ) (places : List ℕ) → past n places ≡ [] → length places ≤ n
not_past n [] h = omega arith
not_past zero (at ∷ places) h = absurd cc
not_past (suc n) (at ∷ places) h = let less = not_past n places h in omega (arith, less)

none_told : (places : List ℕ) → told places ≡ [] → places ≡ []
none_told [] h = refl
none_told (at ∷ places) h = absurd cc

pub few_variables : (names : List Name) (sights : List Sighting) (others : List TreeSight) → AreSeenAs names sights others → too_many sights ≡ [] → length (order_in others) ≤ 64
few_variables names sights others seen none =
    let most = not_past 64 (new_variables [] sights) (none_told (past 64 (new_variables [] sights)) none) in
    let less = fewer names sights others seen [] [] (λ name h. absurd (true≢false (sym h))) in
    omega (arith, most, less)
