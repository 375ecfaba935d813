-- What is seen in terms.
use Rattle.std.proofs.Common.{◌≡◌, ◌⊎◌, ◌≤◌, ◌<◌, ℕ, zero, suc, Bool, true, ◌||◌, List, [], ◌∷◌, map, refl, sym, ◌∙◌, ap, subst, inl, inr, true≢false, eqb-true, arith}
use Rattle.std.specs.List.{AllByRecursion, list_any}
use Rattle.symbols.specs.declared.rel.Rel.TheVariants.{Equal}
use Rattle.syntax_tree.specs.declared.term.Op.{Op}
use Rattle.syntax_tree.specs.declared.term.Part.{Part}
use Rattle.syntax_tree.specs.declared.term.Term.{Term}
use Rattle.syntax_tree.specs.declared.term.Term.TheFolds.{fold-Part}
use Rattle.syntax_tree.specs.declared.term.Term.TheVariants as t
use Rattle.syntax_tree.specs.declared.literal.Literal.{Literal}
use Rattle.syntax_tree.specs.declared.literal.Literal.TheVariants as l
use Rattle.ground_model.specs.Members.{IsMember}
use Rattle.ground_model.proofs.Bools.{or_elim}
use Rattle.rewriting.specs.declared.sight.Sight.TheVariants as sight
use Rattle.rewriting.specs.Made.{Made, same, seeing, mapped, both, each}
use Rattle.rewriting.specs.Rewritten.{Ways, ways, ways_in, part_way, for_interval}
use Rattle.rewriting.proofs.Layers.{ways-Number, ways-Text, ways-Variable, ways-Anonymous, ways-Function, ways-Tuple, ways-Sum, ways-Product, ways-Minus, ways-Interval, ways-Part}
use Rattle.program_meaning.specs.Variables.{any_true, any_part, occurs_step, occurs}
use Rattle.program_meaning.proofs.Layers.{occurs-Number, occurs-Text, occurs-Variable, occurs-Function, occurs-Tuple, occurs-Sum, occurs-Product, occurs-Minus, occurs-Interval, occurs-Part}
use Rattle.program_meaning.proofs.Terms.{Passes, every_term}
use Rattle.rewritten_rules.specs.Within.{within_literal}
use Rattle.rewritten_rules.proofs.Reading.{read-Compare}
use Rattle.rewritten_rules.proofs.Pieces.{seen, in_literal, stands, IsSeen, seen_same, seen_mapped, Sees, sees_both, AllSee, NoneSees, OneSees, sees_each}

-- a variable of what is made of a term is seen, be the term an argument or not
abbrev pub SeesWays : ℕ → Ways → Type 0
SeesWays n w = Sees n (occurs n) w.elsewhere × Sees n (occurs n) w.argument

abbrev SeesTerm : ℕ → Term → Type 0
SeesTerm n term = SeesWays n (ways term)

any_mapped : {X : Type 0} (f : X → Bool) (xs : List X) → any_true (map f xs) ≡ list_any f xs
any_mapped f [] = refl
any_mapped f (x ∷ xs) = ap (λ b. f x || b) (any_mapped f xs)

abbrev in_part : ℕ → Part → Bool
in_part n part = occurs n part.term

any_parts : (n : ℕ) (parts : List Part) → any_true (map (fold-Part Bool Bool (occurs_step n) any_part) parts) ≡ list_any (in_part n) parts
any_parts n [] = refl
any_parts n (part ∷ parts) = λ i. occurs-Part n part i || any_parts n parts i

-- a variable that is named
see_named : (n m : ℕ) → Sees n (occurs n) (λ next. seeing (sight.Variable m) (same (t.Variable m) next))
see_named n m next = record {
  made = λ h. inl (sym (eqb-true m n (sym (occurs-Variable n m) ∙ h)));
  added = λ h. absurd (true≢false (sym h));
  rises = omega arith;
  covers = λ k low high. absurd (omega (arith, low, high));
  known = λ k is. inl (by k is);
}
  where
    by : (k : ℕ) → IsMember (m ∷ []) k → IsMember (sight.Variable m ∷ []) (sight.Variable k)
    by k (inl is) = inl (ap (λ (z : ℕ). sight.Variable z) is)
    by k (inr none) = absurd none

-- a variable that is made
see_made : (n : ℕ) → Sees n (occurs n) (λ next. seeing (sight.Anonymous next) (same (t.Variable next) (suc next)))
see_made n next = record {
  made = λ h. inl (sym (eqb-true next n (sym (occurs-Variable n next) ∙ h)));
  added = λ h. absurd (true≢false (sym h));
  rises = omega arith;
  covers = λ m low high. inl (omega (arith, low, high));
  known = λ m is. inr (by m is);
}
  where
    by : (m : ℕ) → IsMember (next ∷ []) m → (next ≤ m) × (m < suc next)
    by m (inl is) = (omega (arith, is), omega (arith, is))
    by m (inr none) = absurd none

see_arguments : (n : ℕ) (args : List Term) → AllByRecursion (SeesTerm n) args → AllSee n (occurs n) (map (λ arg. arg.argument) (map ways args))
see_arguments n [] all = NoneSees
see_arguments n (arg ∷ args) all = OneSees (ways arg).argument (map (λ arg. arg.argument) (map ways args)) all.0.1 (see_arguments n args all.1)

see_part : (n : ℕ) (part : Part) → SeesTerm n part.term → Sees n (in_part n) (part_way (ways_in part))
see_part n part s =
    subst (λ (p : Op × Ways). Sees n (in_part n) (part_way p)) (sym (ways-Part part))
    (λ next. seen_mapped n (occurs n) (in_part n) (λ term. record { op = part.op; term = term }) next ((ways part.term).elsewhere next) (λ h. h) (s.0 next))

see_parts : (n : ℕ) (parts : List Part) → AllByRecursion (λ part. SeesTerm n part.term) parts → AllSee n (in_part n) (map part_way (map ways_in parts))
see_parts n [] all = NoneSees
see_parts n (part ∷ parts) all = OneSees (part_way (ways_in part)) (map part_way (map ways_in parts)) (see_part n part all.0) (see_parts n parts all.1)

alike_sees : (n : ℕ) (w : Ways) (way : ℕ → Made Term) → w ≡ record { elsewhere = way; argument = way } → Sees n (occurs n) way → SeesWays n w
alike_sees n w way is s = subst (SeesWays n) (sym is) (s, s)

see_interval : (n : ℕ) (low high : Term) → SeesTerm n low → SeesTerm n high → Sees n (occurs n) (both t.Interval (ways low).elsewhere (ways high).elsewhere)
see_interval n low high s r =
    sees_both n (occurs n) (occurs n) (occurs n) t.Interval (ways low).elsewhere (ways high).elsewhere
    (λ a b h. or_elim (occurs n a) (occurs n b) (sym (occurs-Interval n a b) ∙ h)) s.0 r.0

see_for_interval : (n next : ℕ) (interval : Made Term) → IsSeen n (occurs n) (suc next) interval → IsSeen n (occurs n) next (for_interval next interval)
see_for_interval n next interval s = record {
  made = λ h. inl (sym (eqb-true next n (sym (occurs-Variable n next) ∙ h)));
  added = λ h. by (or_elim (in_literal n compare) (stands n interval.added) h);
  rises = let r = s.rises in omega (arith, r);
  covers = λ m low high. from (order m next) low high;
  known = λ m is. known_by m is;
}
  where
    compare : Literal
    compare = l.Compare (t.Variable next) Equal interval.made

    alone : in_literal n compare ≡ (occurs n (t.Variable next) || occurs n interval.made)
    alone = ap (within_literal n) (read-Compare (t.Variable next) Equal interval.made)

    by_side : (occurs n (t.Variable next) ≡ true) ⊎ (occurs n interval.made ≡ true) → IsMember (next ∷ seen interval.sights) n
    by_side (inl here) = inl (sym (eqb-true next n (sym (occurs-Variable n next) ∙ here)))
    by_side (inr there) = inr (s.made there)

    by : (in_literal n compare ≡ true) ⊎ (stands n interval.added ≡ true) → IsMember (next ∷ seen interval.sights) n
    by (inl h) = by_side (or_elim (occurs n (t.Variable next)) (occurs n interval.made) (sym alone ∙ h))
    by (inr h) = inr (s.added h)

    order : (k l : ℕ) → (k ≤ l) ⊎ (suc l ≤ k)
    order zero l = inl (omega arith)
    order (suc k) zero = inr (omega arith)
    order (suc k) (suc l) = go (order k l)
      where
        go : (k ≤ l) ⊎ (suc l ≤ k) → (suc k ≤ suc l) ⊎ (suc (suc l) ≤ suc k)
        go (inl less) = inl (omega (arith, less))
        go (inr most) = inr (omega (arith, most))

    from : {m : ℕ} → (m ≤ next) ⊎ (suc next ≤ m) → next ≤ m → m < interval.next → IsMember (next ∷ seen interval.sights) m
    from (inl most) low high = inl (omega (arith, most, low))
    from {m} (inr more) low high = inr (s.covers m more high)

    later : (m : ℕ) → IsMember interval.sights (sight.Variable m) ⊎ ((suc next ≤ m) × (m < interval.next))
        → IsMember (sight.Interval next ∷ interval.sights) (sight.Variable m) ⊎ ((next ≤ m) × (m < interval.next))
    later m (inl v) = inl (inr v)
    later m (inr range) = let low = range.0 in inr (omega (arith, low), range.1)

    known_by : (m : ℕ) → IsMember (next ∷ seen interval.sights) m → IsMember (sight.Interval next ∷ interval.sights) (sight.Variable m) ⊎ ((next ≤ m) × (m < interval.next))
    known_by m (inl is) = let r = s.rises in inr (omega (arith, is), omega (arith, is, r))
    known_by m (inr there) = later m (s.known m there)

sees_passes : (n : ℕ) → Passes (SeesTerm n)
sees_passes n = record {
  number = λ k. alike_sees n (ways (t.Number k)) (same (t.Number k)) (ways-Number k) (λ next. seen_same n (occurs n) (t.Number k) next (occurs-Number n k));
  text = λ text. alike_sees n (ways (t.Text text)) (same (t.Text text)) (ways-Text text) (λ next. seen_same n (occurs n) (t.Text text) next (occurs-Text n text));
  variable = λ m. alike_sees n (ways (t.Variable m)) (λ next. seeing (sight.Variable m) (same (t.Variable m) next)) (ways-Variable m) (see_named n m);
  anonymous = alike_sees n (ways t.Anonymous) (λ next. seeing (sight.Anonymous next) (same (t.Variable next) (suc next))) ways-Anonymous (see_made n);
  function = λ name args all.
      let way = each (map (λ arg. arg.argument) (map ways args)) in
      let s = sees_each n (occurs n) (map (λ arg. arg.argument) (map ways args)) (see_arguments n args all) in
      alike_sees n (ways (t.Function name args)) (λ next. mapped (t.Function name) (way next)) (ways-Function name args)
      (λ next. seen_mapped n (list_any (occurs n)) (occurs n) (t.Function name) next (way next)
      (λ h. sym (occurs-Function n name (way next).made ∙ any_mapped (occurs n) (way next).made) ∙ h) (s next));
  tuple = λ args all.
      let way = each (map (λ arg. arg.argument) (map ways args)) in
      let s = sees_each n (occurs n) (map (λ arg. arg.argument) (map ways args)) (see_arguments n args all) in
      alike_sees n (ways (t.Tuple args)) (λ next. mapped t.Tuple (way next)) (ways-Tuple args)
      (λ next. seen_mapped n (list_any (occurs n)) (occurs n) t.Tuple next (way next)
      (λ h. sym (occurs-Tuple n (way next).made ∙ any_mapped (occurs n) (way next).made) ∙ h) (s next));
  sum = λ parts all.
      let way = each (map part_way (map ways_in parts)) in
      let s = sees_each n (in_part n) (map part_way (map ways_in parts)) (see_parts n parts all) in
      alike_sees n (ways (t.Sum parts)) (λ next. mapped t.Sum (way next)) (ways-Sum parts)
      (λ next. seen_mapped n (list_any (in_part n)) (occurs n) t.Sum next (way next)
      (λ h. sym (occurs-Sum n (way next).made ∙ any_parts n (way next).made) ∙ h) (s next));
  product = λ parts all.
      let way = each (map part_way (map ways_in parts)) in
      let s = sees_each n (in_part n) (map part_way (map ways_in parts)) (see_parts n parts all) in
      alike_sees n (ways (t.Product parts)) (λ next. mapped t.Product (way next)) (ways-Product parts)
      (λ next. seen_mapped n (list_any (in_part n)) (occurs n) t.Product next (way next)
      (λ h. sym (occurs-Product n (way next).made ∙ any_parts n (way next).made) ∙ h) (s next));
  minus = λ inner s.
      alike_sees n (ways (t.Minus inner)) (λ next. mapped t.Minus ((ways inner).elsewhere next)) (ways-Minus inner)
      (λ next. seen_mapped n (occurs n) (occurs n) t.Minus next ((ways inner).elsewhere next) (λ h. sym (occurs-Minus n ((ways inner).elsewhere next).made) ∙ h) (s.0 next));
  interval = λ low high s r.
      subst (SeesWays n) (sym (ways-Interval low high))
      (see_interval n low high s r, λ next. see_for_interval n next (both t.Interval (ways low).elsewhere (ways high).elsewhere (suc next)) (see_interval n low high s r (suc next)));
}

pub sees_term : (n : ℕ) (term : Term) → SeesTerm n term
sees_term n = every_term (SeesTerm n) (sees_passes n)
