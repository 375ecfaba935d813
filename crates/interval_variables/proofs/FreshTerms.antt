-- What is made of terms.
use Rattle.std.proofs.Common.{◌≡◌, ◌⊎◌, ◌≤◌, ◌<◌, ℕ, suc, Bool, true, false, ◌||◌, List, [], ◌∷◌, map, refl, sym, ◌∙◌, ap, subst, inl, inr, true≢false, eqb-true, arith}
use Rattle.std.specs.List.{AllByRecursion, list_any}
use Rattle.symbols.specs.declared.rel.Rel.TheVariants.{Equal}
use Rattle.syntax_tree.specs.declared.term.Op.{Op}
use Rattle.syntax_tree.specs.declared.term.Part.{Part}
use Rattle.syntax_tree.specs.declared.term.Term.{Term}
use Rattle.syntax_tree.specs.declared.term.Term.TheFolds.{fold-Part}
use Rattle.syntax_tree.specs.declared.term.Term.TheVariants as t
use Rattle.syntax_tree.specs.declared.literal.Literal.{Literal}
use Rattle.syntax_tree.specs.declared.literal.Literal.TheVariants as l
use Rattle.ground_model.specs.Members.{IsMember}
use Rattle.ground_model.proofs.Bools.{or_elim}
use Rattle.rewriting.specs.declared.sight.Sight.TheVariants as sight
use Rattle.rewriting.specs.Made.{Made, same, seeing, mapped, both, each}
use Rattle.rewriting.specs.Rewritten.{Ways, ways, ways_in, part_way, for_interval, atom_made}
use Rattle.rewriting.proofs.Layers.{ways-Number, ways-Text, ways-Variable, ways-Anonymous, ways-Function, ways-Tuple, ways-Sum, ways-Product, ways-Minus, ways-Interval, ways-Part}
use Rattle.program_meaning.specs.Read.{literal_read}
use Rattle.program_meaning.specs.Variables.{any_true, any_part, occurs_step, occurs, occurs_in_literal}
use Rattle.program_meaning.proofs.Layers.{occurs-Number, occurs-Text, occurs-Variable, occurs-Function, occurs-Tuple, occurs-Sum, occurs-Product, occurs-Minus, occurs-Interval, occurs-Part}
use Rattle.program_meaning.specs.Tuples.{told_in}
use Rattle.program_meaning.proofs.Terms.{Passes, every_term}
use Rattle.interval_variables.proofs.Reading.{read-Compare}
use Rattle.interval_variables.proofs.Scopes.{plain_in, plain_split, Fresh, FreshWay, fresh_same, fresh_mapped, fresh_both, AllFresh, NoneFresh, OneFresh, fresh_each}

abbrev pub stands : ℕ → Term → Bool
stands m term = occurs m term

abbrev pub FreshWays : ℕ → Ways → Type 0
FreshWays N w = FreshWay N stands w.elsewhere × FreshWay N stands w.argument

abbrev FreshTerm : ℕ → Term → Type 0
FreshTerm N term = FreshWays N (ways term)

any_mapped : {X : Type 0} (f : X → Bool) (xs : List X) → any_true (map f xs) ≡ list_any f xs
any_mapped f [] = refl
any_mapped f (x ∷ xs) = ap (λ b. f x || b) (any_mapped f xs)

abbrev in_part : ℕ → Part → Bool
in_part n part = occurs n part.term

any_parts : (n : ℕ) (parts : List Part) → any_true (map (fold-Part Bool Bool (occurs_step n) any_part) parts) ≡ list_any (in_part n) parts
any_parts n [] = refl
any_parts n (part ∷ parts) = λ i. occurs-Part n part i || any_parts n parts i

fresh_named : (N k : ℕ) → FreshWay N stands (λ next. seeing (sight.Variable k) (same (t.Variable k) next))
fresh_named N k next above named = record {
  told = λ x m. absurd m;
  rises = omega arith;
  low = λ m h. let e : k ≡ m = eqb-true k m (sym (occurs-Variable m k) ∙ h) in let b : k ≤ N = named k (inl refl) in inl (omega (arith, e, b));
  added_low = λ m h. absurd (true≢false (sym h));
  interval = λ m i. absurd (not_there m i);
  equation = λ m i. absurd (not_there m i);
}
  where
    not_there : (m : ℕ) → IsMember (sight.Variable k ∷ []) (sight.Interval m) → ⊥
    not_there m (inl e) = cc
    not_there m (inr none) = none

fresh_made : (N : ℕ) → FreshWay N stands (λ next. seeing (sight.Anonymous next) (same (t.Variable next) (suc next)))
fresh_made N next above named = record {
  told = λ x m. absurd m;
  rises = omega arith;
  low = λ m h. let e : next ≡ m = eqb-true next m (sym (occurs-Variable m next) ∙ h) in inr (omega (arith, e), omega (arith, e));
  added_low = λ m h. absurd (true≢false (sym h));
  interval = λ m i. absurd (not_there m i);
  equation = λ m i. absurd (not_there m i);
}
  where
    not_there : (m : ℕ) → IsMember (sight.Anonymous next ∷ []) (sight.Interval m) → ⊥
    not_there m (inl e) = cc
    not_there m (inr none) = none

fresh_arguments : (N : ℕ) (args : List Term) → AllByRecursion (FreshTerm N) args → AllFresh N stands (map (λ arg. arg.argument) (map ways args))
fresh_arguments N [] all = NoneFresh
fresh_arguments N (arg ∷ args) all = OneFresh (ways arg).argument (map (λ arg. arg.argument) (map ways args)) all.0.1 (fresh_arguments N args all.1)

fresh_part : (N : ℕ) (part : Part) → FreshTerm N part.term → FreshWay N in_part (part_way (ways_in part))
fresh_part N part s =
    subst (λ (p : Op × Ways). FreshWay N in_part (part_way p)) (sym (ways-Part part))
    (λ next above named. fresh_mapped N stands in_part (λ term. record { op = part.op; term = term }) next ((ways part.term).elsewhere next) (λ m h. h) (s.0 next above named))

fresh_parts : (N : ℕ) (parts : List Part) → AllByRecursion (λ part. FreshTerm N part.term) parts → AllFresh N in_part (map part_way (map ways_in parts))
fresh_parts N [] all = NoneFresh
fresh_parts N (part ∷ parts) all = OneFresh (part_way (ways_in part)) (map part_way (map ways_in parts)) (fresh_part N part all.0) (fresh_parts N parts all.1)

alike_fresh : (N : ℕ) (w : Ways) (way : ℕ → Made Term) → w ≡ record { elsewhere = way; argument = way } → FreshWay N stands way → FreshWays N w
alike_fresh N w way is s = subst (FreshWays N) (sym is) (s, s)

fresh_interval : (N : ℕ) (low high : Term) → FreshTerm N low → FreshTerm N high → FreshWay N stands (both t.Interval (ways low).elsewhere (ways high).elsewhere)
fresh_interval N low high s r =
    fresh_both N stands stands stands t.Interval (ways low).elsewhere (ways high).elsewhere
    (λ m a b h. or_elim (occurs m a) (occurs m b) (sym (occurs-Interval m a b) ∙ h)) s.0 r.0

fresh_for_interval : (N next : ℕ) (inner : Made Term) → Fresh N stands (suc next) inner → Fresh N stands next (for_interval next inner)
fresh_for_interval N next inner s = record {
  told = λ x m. elim m [ inl e ↦ (ap (λ v. told_in (literal_read v)) e ∙ ap told_in (read-Compare (t.Variable next) Equal inner.made)) | inr k ↦ s.told x k ];
  rises = let r = s.rises in omega (arith, r);
  low = λ m h.
      let e : next ≡ m = eqb-true next m (sym (occurs-Variable m next) ∙ h) in
      let r = s.rises in inr (omega (arith, e), omega (arith, e, r));
  added_low = λ m h. elim (plain_split m (compare ∷ []) inner.added h) [ inl k ↦ own m k | inr k ↦ wider m (s.added_low m k) ];
  interval = λ m i. elim i [
    | inl e ↦ (let same : m ≡ next = cc in let r = s.rises in (omega (arith, same), omega (arith, same, r)))
    | inr k ↦ (let p = s.interval m k in let low = p.0 in (omega (arith, low), p.1))
  ];
  equation = λ m i. elim i [
    | inl e ↦ (
        let same : m ≡ next = cc in
        (inner.made, inl (ap (λ v. l.Compare (t.Variable v) Equal inner.made) same), λ k h. later m same k (s.low k h)))
    | inr k ↦ (let q = s.equation m k in (q.0, inr q.1, q.2))
  ];
}
  where
    compare : Literal
    compare = l.Compare (t.Variable next) Equal inner.made

    wider : (m : ℕ) → (m ≤ N) ⊎ ((suc next ≤ m) × (m < inner.next)) → (m ≤ N) ⊎ ((next ≤ m) × (m < inner.next))
    wider m (inl k) = inl k
    wider m (inr k) = let low = k.0 in inr (omega (arith, low), k.1)

    later : (m : ℕ) → m ≡ next → (k : ℕ) → (k ≤ N) ⊎ ((suc next ≤ k) × (k < inner.next)) → (k ≤ N) ⊎ (m < k)
    later m same k (inl b) = inl b
    later m same k (inr b) = let low = b.0 in inr (omega (arith, same, low))

    or_false : (b : Bool) → (b || false) ≡ true → b ≡ true
    or_false true h = h
    or_false false h = h

    own : (m : ℕ) → plain_in m (l.Compare (t.Variable next) Equal inner.made ∷ []) ≡ true → (m ≤ N) ⊎ ((next ≤ m) × (m < inner.next))
    own m h =
        let sides : (occurs m (t.Variable next) || occurs m inner.made) ≡ true =
        or_false (occurs m (t.Variable next) || occurs m inner.made)
        (ap (λ r. occurs_in_literal m r || false) (sym (read-Compare (t.Variable next) Equal inner.made)) ∙ h) in
        elim (or_elim (occurs m (t.Variable next)) (occurs m inner.made) sides) [
          | inl k ↦ (
              let e : next ≡ m = eqb-true next m (sym (occurs-Variable m next) ∙ k) in
              let r = s.rises in inr (omega (arith, e), omega (arith, e, r)))
          | inr k ↦ wider m (s.low m k)
        ]

fresh_passes : (N : ℕ) → Passes (FreshTerm N)
fresh_passes N = record {
  number = λ k. alike_fresh N (ways (t.Number k)) (same (t.Number k)) (ways-Number k) (λ next above named. fresh_same N stands (t.Number k) next (λ m. occurs-Number m k));
  text = λ text. alike_fresh N (ways (t.Text text)) (same (t.Text text)) (ways-Text text) (λ next above named. fresh_same N stands (t.Text text) next (λ m. occurs-Text m text));
  variable = λ m. alike_fresh N (ways (t.Variable m)) (λ next. seeing (sight.Variable m) (same (t.Variable m) next)) (ways-Variable m) (fresh_named N m);
  anonymous = alike_fresh N (ways t.Anonymous) (λ next. seeing (sight.Anonymous next) (same (t.Variable next) (suc next))) ways-Anonymous (fresh_made N);
  function = λ name args all.
      let way = each (map (λ arg. arg.argument) (map ways args)) in
      let s = fresh_each N stands (map (λ arg. arg.argument) (map ways args)) (fresh_arguments N args all) in
      alike_fresh N (ways (t.Function name args)) (λ next. mapped (t.Function name) (way next)) (ways-Function name args)
      (λ next above named. fresh_mapped N (λ m. list_any (occurs m)) stands (t.Function name) next (way next)
      (λ m h. sym (occurs-Function m name (way next).made ∙ any_mapped (occurs m) (way next).made) ∙ h) (s next above named));
  tuple = λ args all.
      let way = each (map (λ arg. arg.argument) (map ways args)) in
      let s = fresh_each N stands (map (λ arg. arg.argument) (map ways args)) (fresh_arguments N args all) in
      alike_fresh N (ways (t.Tuple args)) (λ next. mapped t.Tuple (way next)) (ways-Tuple args)
      (λ next above named. fresh_mapped N (λ m. list_any (occurs m)) stands t.Tuple next (way next)
      (λ m h. sym (occurs-Tuple m (way next).made ∙ any_mapped (occurs m) (way next).made) ∙ h) (s next above named));
  sum = λ parts all.
      let way = each (map part_way (map ways_in parts)) in
      let s = fresh_each N in_part (map part_way (map ways_in parts)) (fresh_parts N parts all) in
      alike_fresh N (ways (t.Sum parts)) (λ next. mapped t.Sum (way next)) (ways-Sum parts)
      (λ next above named. fresh_mapped N (λ m. list_any (in_part m)) stands t.Sum next (way next)
      (λ m h. sym (occurs-Sum m (way next).made ∙ any_parts m (way next).made) ∙ h) (s next above named));
  product = λ parts all.
      let way = each (map part_way (map ways_in parts)) in
      let s = fresh_each N in_part (map part_way (map ways_in parts)) (fresh_parts N parts all) in
      alike_fresh N (ways (t.Product parts)) (λ next. mapped t.Product (way next)) (ways-Product parts)
      (λ next above named. fresh_mapped N (λ m. list_any (in_part m)) stands t.Product next (way next)
      (λ m h. sym (occurs-Product m (way next).made ∙ any_parts m (way next).made) ∙ h) (s next above named));
  minus = λ inner s.
      alike_fresh N (ways (t.Minus inner)) (λ next. mapped t.Minus ((ways inner).elsewhere next)) (ways-Minus inner)
      (λ next above named. fresh_mapped N stands stands t.Minus next ((ways inner).elsewhere next) (λ m h. sym (occurs-Minus m ((ways inner).elsewhere next).made) ∙ h) (s.0 next above named));
  interval = λ low high s r.
      subst (FreshWays N) (sym (ways-Interval low high)) (
        fresh_interval N low high s r,
        λ next above named.
            fresh_for_interval N next (both t.Interval (ways low).elsewhere (ways high).elsewhere (suc next))
            (fresh_interval N low high s r (suc next) (omega (arith, above)) (λ k m. named k (inr m))),
      );
}

pub fresh_term : (N : ℕ) (term : Term) → FreshTerm N term
fresh_term N = every_term (FreshTerm N) (fresh_passes N)

pub fresh_atom : (N : ℕ) (atom : Term) → FreshWay N stands (atom_made atom)
fresh_atom N atom next above named =
    let s : Fresh N stands next ((ways atom).elsewhere next) = (fresh_term N atom).0 next above (λ k m. named k (inr m)) in
    record {
      told = s.told;
      rises = s.rises;
      low = s.low;
      added_low = s.added_low;
      interval = λ m i. elim i [ inl e ↦ absurd cc | inr k ↦ s.interval m k ];
      equation = λ m i. elim i [ inl e ↦ absurd cc | inr k ↦ s.equation m k ];
    }
