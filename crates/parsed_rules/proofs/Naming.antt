-- The named variables of a rule are numbered in the order in which they are seen.
use Rattle.std.proofs.Common.{◌≡◌, ◌<◌, ◌≤◌, ℕ, zero, suc, ◌+◌, ◌==◌, Bool, true, false, if◌then◌else◌, bytes_eq, List, [], ◌∷◌, ◌++◌, map, length, ◌⊎◌, inl, inr, refl, sym, ◌∙◌, ap, subst, true≢false, arith}
use Rattle.std.proofs.lemmas.Bool.Decides.{nat_tests}
use Rattle.std.proofs.lemmas.Slice.Eq.{bytes_eq-Decides}
use Rattle.syntax_tree.specs.declared.rule.Name.{Name}
use Rattle.syntax_tree.specs.declared.rule.Rule.{Rule}
use Rattle.ground_model.specs.Members.{IsMember}
use Rattle.grammar.specs.Sight.{Sight, Sighting, of_variable, of_anonymous, of_interval, of_atom}
use Rattle.grammar.specs.Tree.{number_of, number_behind}
use Rattle.theory_grammar.specs.Kept.{named, with_sight}
use Rattle.text_laws.proofs.SeenWords.{IsAmong}
use Rattle.text_laws.proofs.KnownNames.{seen_known}
use Rattle.rewriting.specs.declared.sight.Sight.{Sight as TreeSight}
use Rattle.rewriting.specs.declared.sight.Sight.TheVariants.{Variable, Anonymous, Interval, Atom}
use Rattle.rewriting.specs.Order.{sights_of}
use Rattle.rewritten_rules.specs.Named.{AreNamed}
use Rattle.seen_forms.specs.Seen.{IsSeenAs, AreSeenAs}

-- ---- numbers of names
more_is_some : (k : ℕ) → (k + 1 == 0) ≡ false
more_is_some k = grind (arith, nat_tests)

number_least : (k : ℕ) (names : List Name) (name : List ℕ) → number_behind k names name ≤ k + length names
number_least k [] name = omega arith
number_least k (o ∷ os) name = by (bytes_eq o.text name) (number_least (k + 1) os name)
  where
    by : (b : Bool) → number_behind (k + 1) os name ≤ k + 1 + length os → (if b then k + 1 else number_behind (k + 1) os name) ≤ k + suc (length os)
    by true rest = omega arith
    by false rest = omega (arith, rest)

front_number : (k : ℕ) (names more : List Name) (name : List ℕ) → (number_behind k names name == 0) ≡ false → number_behind k (names ++ more) name ≡ number_behind k names name
front_number k [] more name = λ h. absurd cc
front_number k (o ∷ os) more name = by (bytes_eq o.text name) (front_number (k + 1) os more name)
  where
    by : (b : Bool) → ((number_behind (k + 1) os name == 0) ≡ false → number_behind (k + 1) (os ++ more) name ≡ number_behind (k + 1) os name)
        → ((if b then k + 1 else number_behind (k + 1) os name) == 0) ≡ false
        → (if b then k + 1 else number_behind (k + 1) (os ++ more) name) ≡ (if b then k + 1 else number_behind (k + 1) os name)
    by true rest h = refl
    by false rest h = rest h

-- a name that is new has the number behind the others
last_number : (k : ℕ) (names : List Name) (name : List ℕ) → (number_behind k names name == 0) ≡ true → number_behind k (names ++ record { text = name } ∷ []) name ≡ k + length names + 1
last_number k [] name h = ap (λ b. if b then k + 1 else 0) ((bytes_eq-Decides name name).1 refl) ∙ omega arith
last_number k (o ∷ os) name h = by (bytes_eq o.text name) h (last_number (k + 1) os name)
  where
    by : (b : Bool) → ((if b then k + 1 else number_behind (k + 1) os name) == 0) ≡ true
        → ((number_behind (k + 1) os name == 0) ≡ true → number_behind (k + 1) (os ++ record { text = name } ∷ []) name ≡ k + 1 + length os + 1)
        → (if b then k + 1 else number_behind (k + 1) (os ++ record { text = name } ∷ []) name) ≡ k + suc (length os) + 1
    by true none rest = absurd (true≢false (sym none ∙ more_is_some k))
    by false none rest = rest none ∙ omega arith

-- ---- what stays
stays_by_sight : (names : List Name) (sight : Sight) (name : List ℕ) → (number_of names name == 0) ≡ false → number_of (with_sight names sight) name ≡ number_of names name
stays_by_sight names (of_variable other) name h = by (number_of names other == 0)
  where
    by : (b : Bool) → number_of (if b then names ++ record { text = other } ∷ [] else names) name ≡ number_of names name
    by true = front_number 0 names (record { text = other } ∷ []) name h
    by false = refl
stays_by_sight names of_anonymous name h = refl
stays_by_sight names of_interval name h = refl
stays_by_sight names of_atom name h = refl

stays : (names : List Name) (sights : List Sighting) (name : List ℕ) → (number_of names name == 0) ≡ false → number_of (named names sights) name ≡ number_of names name
stays names [] name h = refl
stays names (s ∷ sights) name h =
    let e = stays_by_sight names s.sight name h in
    stays (with_sight names s.sight) sights name (ap (λ k. k == 0) e ∙ h) ∙ e

-- ---- each number is that of a name that is seen
record IsNumbered (names : List Name) (sights : List Sight) (n : ℕ) : Type 0 where
  name : List ℕ
  seen : IsAmong (of_variable name) sights
  number : number_of names name ≡ n

abbrev sighted : List Sighting → List Sight
sighted sights = map (λ (s : Sighting). s.sight) sights

later : (names : List Name) (s : Sight) (sights : List Sight) (n : ℕ) → IsNumbered names sights n → IsNumbered names (s ∷ sights) n
later names s sights n h = record { name = h.name; seen = inr h.seen; number = h.number }

pushed_length : (names : List Name) (name : Name) → length (names ++ name ∷ []) ≡ length names + 1
pushed_length [] name = refl
pushed_length (o ∷ os) name = let e = pushed_length os name in omega (arith, e)

or_more : (a b : ℕ) → a < b → (b ≡ a + 1) ⊎ (a + 1 < b)
or_more zero (suc zero) h = inl refl
or_more zero (suc (suc b)) h = inr (omega arith)
or_more zero zero h = absurd (omega (arith, h))
or_more (suc a) zero h = absurd (omega (arith, h))
or_more (suc a) (suc b) h = by (or_more a b (omega (arith, h)))
  where
    by : (b ≡ a + 1) ⊎ (a + 1 < b) → (suc b ≡ suc a + 1) ⊎ (suc a + 1 < suc b)
    by (inl e) = inl (omega (arith, e))
    by (inr less) = inr (omega (arith, less))

-- one sight more
module _ (s : Sighting) (sights : List Sighting) (n : ℕ)
    (rec : (before : List Name) → length before < n → n ≤ length (named before sights) → IsNumbered (named before sights) (sighted sights) n) (before : List Name) (low : length before < n)
    (high : n ≤ length (named before (s ∷ sights))) where
  again : (sight : Sight) → s.sight ≡ sight → with_sight before sight ≡ before → IsNumbered (named before (s ∷ sights)) (sighted (s ∷ sights)) n
  again sight e same =
      let stay : with_sight before s.sight ≡ before = ap (with_sight before) e ∙ same in
      subst (λ (names : List Name). IsNumbered (named names sights) (sighted (s ∷ sights)) n) (sym stay)
      (later (named before sights) s.sight (sighted sights) n (rec before low (subst (λ (names : List Name). n ≤ length (named names sights)) stay high)))

  not_none : (k m : ℕ) → k ≡ 0 + m + 1 → (k == 0) ≡ false
  not_none k m p = let e : k ≡ m + 1 = omega (arith, p) in ap (λ j. j == 0) e ∙ more_is_some m

  here : (name : List ℕ) → s.sight ≡ of_variable name → (after : List Name) → length after ≡ length before + 1 → n ≤ length (named after sights) → number_of after name ≡ 0 + length before + 1
      → (n ≡ length before + 1) ⊎ (length before + 1 < n) → IsNumbered (named after sights) (sighted (s ∷ sights)) n
  here name e after more most is (inl same) = record {
    name = name;
    seen = inl (sym e);
    number = stays after sights name (not_none (number_of after name) (length before) is) ∙ (let p = is in let q = same in omega (arith, p, q));
  }
  here name e after more most is (inr less) = later (named after sights) s.sight (sighted sights) n (rec after (omega (arith, more, less)) most)

  new : (name : List ℕ) → s.sight ≡ of_variable name → (number_of before name == 0) ≡ true → IsNumbered (named before (s ∷ sights)) (sighted (s ∷ sights)) n
  new name e none =
      let after = before ++ record { text = name } ∷ [] in
      let pushed : with_sight before s.sight ≡ after = ap (with_sight before) e ∙ ap (λ b. if b then after else before) none in
      subst (λ (names : List Name). IsNumbered (named names sights) (sighted (s ∷ sights)) n) (sym pushed)
      (here name e after (pushed_length before (record { text = name })) (subst (λ (names : List Name). n ≤ length (named names sights)) pushed high) (last_number 0 before name none)
      (or_more (length before) n low))

  known_or_new : (name : List ℕ) → s.sight ≡ of_variable name → (b : Bool) → (number_of before name == 0) ≡ b → IsNumbered (named before (s ∷ sights)) (sighted (s ∷ sights)) n
  known_or_new name e true none = new name e none
  known_or_new name e false some = again (of_variable name) e (ap (λ b. if b then before ++ record { text = name } ∷ [] else before) some)

  one_sight_more : (sight : Sight) → s.sight ≡ sight → IsNumbered (named before (s ∷ sights)) (sighted (s ∷ sights)) n
  one_sight_more (of_variable name) e = known_or_new name e (number_of before name == 0) refl
  one_sight_more of_anonymous e = again of_anonymous e refl
  one_sight_more of_interval e = again of_interval e refl
  one_sight_more of_atom e = again of_atom e refl

numbered : (before : List Name) (sights : List Sighting) (n : ℕ) → length before < n → n ≤ length (named before sights) → IsNumbered (named before sights) (sighted sights) n
numbered before [] n low high = absurd (omega (arith, low, high))
numbered before (s ∷ sights) n low high = one_sight_more s sights n (λ names. numbered names sights n) before low high s.sight refl

-- ---- trees
module _ (names : List Name) where
  to_tree : (sights : List Sighting) (others : List TreeSight) → AreSeenAs names sights others → (name : List ℕ) → IsAmong (of_variable name) (sighted sights) → IsMember others (Variable (number_of names name))
  to_tree [] [] h name m = absurd m
  to_tree [] (o ∷ others) h name m = absurd h
  to_tree (s ∷ sights) [] h name m = absurd h
  to_tree (s ∷ sights) (o ∷ others) h name (inl e) = inl (by o (subst (λ sight. IsSeenAs names sight o) (sym e) h.0))
    where
      by : (o : TreeSight) → IsSeenAs names (of_variable name) o → Variable (number_of names name) ≡ o
      by (Variable n) is = ap (λ (k : ℕ). Variable k) (sym is)
      by (Anonymous n) is = absurd is
      by (Interval n) is = absurd is
      by Atom is = absurd is
  to_tree (s ∷ sights) (o ∷ others) h name (inr m) = inr (to_tree sights others h.1 name m)

  record IsNameOf (sights : List Sight) (n : ℕ) : Type 0 where
    name : List ℕ
    seen : IsAmong (of_variable name) sights
    is : n ≡ number_of names name

  from_sight : (sight : Sight) (n : ℕ) → IsSeenAs names sight (Variable n) → (name : List ℕ) × (of_variable name ≡ sight) × (n ≡ number_of names name)
  from_sight (of_variable name) n is = (name, refl, is)
  from_sight of_anonymous n is = absurd is
  from_sight of_interval n is = absurd is
  from_sight of_atom n is = absurd is

  from_tree : (sights : List Sighting) (others : List TreeSight) → AreSeenAs names sights others → (n : ℕ) → IsMember others (Variable n) → IsNameOf (sighted sights) n
  from_tree [] [] h n m = absurd m
  from_tree [] (o ∷ others) h n m = absurd h
  from_tree (s ∷ sights) [] h n m = absurd h
  from_tree (s ∷ sights) (o ∷ others) h n (inl e) =
      let p = from_sight s.sight n (subst (IsSeenAs names s.sight) (sym e) h.0) in record { name = p.0; seen = inl p.1; is = p.2 }
  from_tree (s ∷ sights) (o ∷ others) h n (inr m) = let p = from_tree sights others h.1 n m in record { name = p.name; seen = inr p.seen; is = p.is }

above : (k : ℕ) → (k == 0) ≡ false → 0 < k
above zero h = absurd cc
above (suc k) h = omega arith

-- the variables that are seen in a rule are those of its names, numbered
pub are_named : (sights : List Sighting) (rule : Rule) → rule.names ≡ named [] sights → AreSeenAs (named [] sights) sights (sights_of rule) → AreNamed rule
are_named sights rule is seen = record {
  known = λ n m.
      let p = from_tree (named [] sights) sights (sights_of rule) seen n m in
      let least = number_least 0 (named [] sights) p.name in
      let same = p.is in
      let most : n ≤ length (named [] sights) = omega (arith, same, least) in
      (subst (λ k. 0 < k) (sym same) (above (number_of (named [] sights) p.name) (seen_known [] sights p.name p.seen)), subst (λ (names : List Name). n ≤ length names) (sym is) most);
  all = λ n low high.
      let p = numbered [] sights n low (subst (λ (names : List Name). n ≤ length names) is high) in
      subst (λ k. IsMember (sights_of rule) (Variable k)) p.number (to_tree (named [] sights) sights (sights_of rule) seen p.name p.seen);
}
