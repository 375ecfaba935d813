-- Orders of variables: each once, and numbered.
use Rattle.std.proofs.Common.{◌≡◌, ◌⊎◌, ◌≤◌, ◌<◌, ℕ, zero, suc, ◌+◌, ◌-◌, ◌==◌, ◌||◌, Bool, true, false, if◌then◌else◌, List, [], ◌∷◌, length, refl, sym, ◌∙◌, ap, subst, inl, inr, true≢false, eqb-true, arith}
use Rattle.std.specs.List.{AllByRecursion, list_any}
use Rattle.std.proofs.lemmas.Bool.Decides.{nat_tests}
use Rattle.ground_model.specs.Members.{IsMember, IsApart}
use Rattle.ground_model.proofs.Bools.{or_elim}
use Rattle.rewriting.specs.declared.sight.Sight.{Sight}
use Rattle.rewriting.specs.declared.sight.Sight.TheVariants.{Variable}
use Rattle.rewriting.specs.Rewritten.{parts_made}
use Rattle.rewriting.specs.Order.{firsts, order_of}
use Rattle.program_meaning.proofs.Lists.{no_more}
use Rattle.rewritten_rules.specs.Laws.{OrderedLaw, NumberedLaw}
use Rattle.rewritten_rules.proofs.Pieces.{seen, to_right}
use Rattle.rewritten_rules.proofs.SeenRules.{sees_rule, seen_in_rule}

abbrev among : List ℕ → ℕ → Bool
among before n = list_any (λ m. m == n) before

eqb_itself : (n : ℕ) → (n == n) ≡ true
eqb_itself n = grind (arith, nat_tests)

-- what is listed stands among the first ones, or before
listed_first : (before ns : List ℕ) (n : ℕ) → IsMember ns n → IsMember (firsts before ns) n ⊎ (among before n ≡ true)
listed_first before [] n m = absurd m
listed_first before (k ∷ ns) n m = go (among before k) refl m (λ is. listed_first before ns n is) (λ is. listed_first (k ∷ before) ns n is)
  where
    go : (b : Bool) → among before k ≡ b → IsMember (k ∷ ns) n → (IsMember ns n → IsMember (firsts before ns) n ⊎ (among before n ≡ true))
        → (IsMember ns n → IsMember (firsts (k ∷ before) ns) n ⊎ (among (k ∷ before) n ≡ true))
        → IsMember (if b then firsts before ns else k ∷ firsts (k ∷ before) ns) n ⊎ (among before n ≡ true)
    go true is (inl same) rest more = inr (subst (λ (z : ℕ). among before z ≡ true) (sym same) is)
    go true is (inr there) rest more = rest there
    go false is (inl same) rest more = inl (inl same)
    go false is (inr there) rest more = by (more there)
      where
        by : IsMember (firsts (k ∷ before) ns) n ⊎ (among (k ∷ before) n ≡ true) → IsMember (k ∷ firsts (k ∷ before) ns) n ⊎ (among before n ≡ true)
        by (inl behind) = inl (inr behind)
        by (inr noted) = at (or_elim (k == n) (among before n) noted)
          where
            at : ((k == n) ≡ true) ⊎ (among before n ≡ true) → IsMember (k ∷ firsts (k ∷ before) ns) n ⊎ (among before n ≡ true)
            at (inl same) = inl (inl (sym (eqb-true k n same)))
            at (inr earlier) = inr earlier

-- and the first ones are listed, and did not stand before
first_listed : (before ns : List ℕ) (n : ℕ) → IsMember (firsts before ns) n → IsMember ns n × (among before n ≡ false)
first_listed before [] n m = absurd m
first_listed before (k ∷ ns) n m = go (among before k) refl m (first_listed before ns n) (first_listed (k ∷ before) ns n)
  where
    later : (among (k ∷ before) n ≡ false) → among before n ≡ false
    later h = by (k == n) h
      where
        by : (b : Bool) → (b || among before n) ≡ false → among before n ≡ false
        by true h = absurd (true≢false h)
        by false h = h

    go : (b : Bool) → among before k ≡ b → IsMember (if b then firsts before ns else k ∷ firsts (k ∷ before) ns) n
        → (IsMember (firsts before ns) n → IsMember ns n × (among before n ≡ false))
        → (IsMember (firsts (k ∷ before) ns) n → IsMember ns n × (among (k ∷ before) n ≡ false)) → IsMember (k ∷ ns) n × (among before n ≡ false)
    go true is there rest more = (inr (rest there).0, (rest there).1)
    go false is (inl same) rest more = (inl same, subst (λ (z : ℕ). among before z ≡ false) (sym same) is)
    go false is (inr there) rest more = (inr (more there).0, later (more there).1)

firsts_apart : (before ns : List ℕ) → IsApart (firsts before ns)
firsts_apart before [] = tt
firsts_apart before (k ∷ ns) = go (among before k) (firsts_apart before ns) (firsts_apart (k ∷ before) ns)
  where
    away : IsMember (firsts (k ∷ before) ns) k → ⊥
    away m = true≢false (sym (by (k == k) (eqb_itself k)) ∙ (first_listed (k ∷ before) ns k m).1)
      where
        by : (b : Bool) → b ≡ true → (b || among before k) ≡ true
        by true h = refl
        by false h = absurd (true≢false (sym h))

    go : (b : Bool) → IsApart (firsts before ns) → IsApart (firsts (k ∷ before) ns) → IsApart (if b then firsts before ns else k ∷ firsts (k ∷ before) ns)
    go true apart more = apart
    go false apart more = (away, more)

-- the numbers from one on, so many
down_from : ℕ → List ℕ
down_from zero = []
down_from (suc n) = suc n ∷ down_from n

down_few : (n m : ℕ) → IsMember (down_from n) m → (0 < m) × (m ≤ n)
unfolding down_from
down_few zero m k = absurd k
down_few (suc n) m (inl same) = (omega (arith, same), omega (arith, same))
down_few (suc n) m (inr there) = let few = down_few n m there in let low = few.0 in let high = few.1 in (low, omega (arith, high))

down_apart : (n : ℕ) → IsApart (down_from n)
unfolding down_from
down_apart zero = tt
down_apart (suc n) = (λ m. let high = (down_few n (suc n) m).1 in absurd (omega (arith, high)), down_apart n)

down_length : (n : ℕ) → length (down_from n) ≡ n
unfolding down_from
down_length zero = refl
down_length (suc n) = ap suc (down_length n)

variable_seen : (sights : List Sight) (n : ℕ) → IsMember sights (Variable n) → IsMember (seen sights) n
variable_seen [] n m = absurd m
variable_seen (sight ∷ sights) n (inl same) = subst (λ (s : Sight). IsMember (seen (s ∷ sights)) n) same (inl refl)
variable_seen (sight ∷ sights) n (inr there) = to_right n (sight ∷ []) sights (variable_seen sights n there)

order : (a b : ℕ) → (a ≤ b) ⊎ (b < a)
order zero b = inl (omega arith)
order (suc a) zero = inr (omega arith)
order (suc a) (suc b) = go (order a b)
  where
    go : (a ≤ b) ⊎ (b < a) → (suc a ≤ suc b) ⊎ (suc b < suc a)
    go (inl less) = inl (omega (arith, less))
    go (inr more) = inr (omega (arith, more))

pub ordered_law : OrderedLaw
ordered_law rule n h = by (listed_first [] (seen (parts_made rule).sights) n (seen_in_rule n rule h))
  where
    by : IsMember (order_of rule) n ⊎ (false ≡ true) → IsMember (order_of rule) n
    by (inl m) = m
    by (inr wrong) = absurd (true≢false (sym wrong))

pub numbered_law : NumberedLaw
numbered_law rule named = record { apart = firsts_apart [] (seen (parts_made rule).sights); each = all (order_of rule) (λ n m. m) }
  where
    most : ℕ
    most = (parts_made rule).next - 1

    in_order : (n : ℕ) → IsMember (seen (parts_made rule).sights) n → IsMember (order_of rule) n
    in_order n m = by (listed_first [] (seen (parts_made rule).sights) n m)
      where
        by : IsMember (order_of rule) n ⊎ (false ≡ true) → IsMember (order_of rule) n
        by (inl k) = k
        by (inr wrong) = absurd (true≢false (sym wrong))

    covered : (n : ℕ) → 0 < n → n ≤ most → IsMember (order_of rule) n
    covered n low high = in_order n (by (order n (length rule.names)))
      where
        by : (n ≤ length rule.names) ⊎ (length rule.names < n) → IsMember (seen (parts_made rule).sights) n
        by (inl few) = variable_seen (parts_made rule).sights n (named.all n low few)
        by (inr more) = (sees_rule n rule).covers n (omega (arith, more)) (omega (arith, high, low))

    enough : most ≤ length (order_of rule)
    enough =
        let few = no_more (down_from most) (order_of rule) (down_apart most) (λ n m. covered n (down_few most n m).0 (down_few most n m).1) in
        let same = down_length most in omega (arith, few, same)

    within : (n : ℕ) → IsMember (seen (parts_made rule).sights) n → (0 < n) × (n ≤ most)
    within n m = by ((sees_rule n rule).known n m)
      where
        rises : length rule.names + 1 ≤ (parts_made rule).next
        rises = (sees_rule n rule).rises

        by : IsMember (parts_made rule).sights (Variable n) ⊎ ((length rule.names + 1 ≤ n) × (n < (parts_made rule).next)) → (0 < n) × (n ≤ most)
        by (inl v) = let k = named.known n v in let low = k.0 in let high = k.1 in (low, omega (arith, high, rises))
        by (inr range) = let low = range.0 in let high = range.1 in (omega (arith, low), omega (arith, high))

    all : (ns : List ℕ) → ((n : ℕ) → IsMember ns n → IsMember (order_of rule) n) → AllByRecursion (λ n. (0 < n) × (n ≤ length (order_of rule))) ns
    all [] sub = tt
    all (n ∷ ns) sub = (one, all ns (λ m k. sub m (inr k)))
      where
        one : (0 < n) × (n ≤ length (order_of rule))
        one =
            let w = within n (first_listed [] (seen (parts_made rule).sights) n (sub n (inl refl))).0 in
            let low = w.0 in let high = w.1 in let e = enough in (low, omega (arith, high, e))
