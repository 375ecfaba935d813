-- What is true at the moments of a search.
use Rattle.std.proofs.Common.{◌≡◌, ℕ, ◌<◌, ◌≤◌, ◌||◌, inl, inr, Bool, true, false, cond, List, [], ◌∷◌, ◌++◌, refl, sym, ◌∙◌, ap, subst, arith, append-nil}
use Rattle.std.specs.Prelude.{nat_lt}
use Rattle.std.specs.List.{AllByRecursion, list_any, filter}
use Rattle.std.proofs.lemmas.List.Elements.{filter-append}
use Rattle.std.proofs.lemmas.Bool.Decides.{nat_tests}
use Rattle.symbols.specs.declared.ends.Ends.{Ends}
use Rattle.literals.specs.declared.lit.Lit.{Lit}
use Rattle.literals.specs.Lits.{implies_lit}
use Rattle.trail.specs.declared.entry.Entry.{Entry}
use Rattle.trail.specs.Implied.{ends_imply, implied}
use Rattle.trail.specs.Assignment.{Assignment, lits_of, is_true_on}
use Rattle.trail.proofs.ImpliedLaws.{implied_stays}
use Rattle.nogood_store.specs.Holding.{Seen, seen_of, IsFront}
use Rattle.nogood_store.specs.inner.Watching.{lits_seen, below, lits_below, HasFalse, IsRecent, Stored, Left, Working}

clash : {X : Type 0} → true ≡ false → X
clash h = cc

or_map : (a b c : Bool) → (b ≡ true → c ≡ true) → (a || b) ≡ true → (a || c) ≡ true
or_map true b c f h = refl
or_map false b c f h = f h

or_right : (a b : Bool) → b ≡ true → (a || b) ≡ true
or_right true b h = refl
or_right false b h = h

any_filter : (p : Lit → Bool) (q : Seen → Bool) (xs : List Seen) → list_any p (lits_seen (filter q xs)) ≡ true → list_any p (lits_seen xs) ≡ true
any_filter p q [] h = h
any_filter p q (x ∷ xs) h = cases (q x) h (any_filter p q xs)
  where
    cases : (b : Bool) → list_any p (lits_seen (cond b (x ∷ filter q xs) (filter q xs))) ≡ true → (list_any p (lits_seen (filter q xs)) ≡ true → list_any p (lits_seen xs) ≡ true) → (p x.lit || list_any p (lits_seen xs)) ≡ true
    cases true g rest = or_map (p x.lit) (list_any p (lits_seen (filter q xs))) (list_any p (lits_seen xs)) rest g
    cases false g rest = or_right (p x.lit) (list_any p (lits_seen xs)) (rest g)

-- what is true by the lower levels is true by all
pub below_true : (ends : Ends) (m : ℕ) (seen : List Seen) (l : Lit) → implied ends (lits_below m seen) l ≡ true → implied ends (lits_seen seen) l ≡ true
below_true ends m seen l h =
    or_map (ends_imply ends l) (list_any (λ x. implies_lit x l) (lits_below m seen)) (list_any (λ x. implies_lit x l) (lits_seen seen))
    (any_filter (λ x. implies_lit x l) (λ s. nat_lt s.level m) seen) h

pub lits_seen-append : (xs ys : List Seen) → lits_seen (xs ++ ys) ≡ lits_seen xs ++ lits_seen ys
lits_seen-append [] ys = refl
lits_seen-append (x ∷ xs) ys = ap (λ (zs : List Lit). x.lit ∷ zs) (lits_seen-append xs ys)

pub lits_seen_of : (es : List Entry) → lits_seen (seen_of es) ≡ lits_of es
lits_seen_of [] = refl
lits_seen_of (e ∷ es) = ap (λ (zs : List Lit). e.lit ∷ zs) (lits_seen_of es)

-- what is true by the first of a trail is true on it
pub front_true : (ends : Ends) (es : List Entry) (seen : List Seen) (l : Lit) → IsFront seen (seen_of es) → implied ends (lits_seen seen) l ≡ true → implied ends (lits_of es) l ≡ true
front_true ends es seen l f h =
    subst (λ (ls : List Lit). implied ends ls l ≡ true)
    (sym (lits_seen-append seen f.0) ∙ ap lits_seen (sym f.1) ∙ lits_seen_of es)
    (implied_stays ends (lits_seen seen) (lits_seen f.0) l h)

-- a literal that is not true on the trail was true at no moment
pub working_true : (t : Assignment) (low : ℕ) (seen : List Seen) (b a : List Lit) (l : Lit) → IsFront seen (seen_of t.entries) → Working low seen (lits_of t.entries) b a → implied t.shape.ends b l ≡ true → is_true_on t l ≡ true
working_true t low seen b a l f (inl m) h = front_true t.shape.ends t.entries seen l f (below_true t.shape.ends m.0 seen l (subst (λ (ls : List Lit). implied t.shape.ends ls l ≡ true) m.3 h))
working_true t low seen b a l f (inr m) h = front_true t.shape.ends t.entries seen l f (subst (λ (ls : List Lit). implied t.shape.ends ls l ≡ true) m.0 h)

pub untrue_calm : (t : Assignment) (low : ℕ) (seen : List Seen) (n : List Lit) (l : Lit) → IsFront seen (seen_of t.entries) → is_true_on t l ≡ false → (b a : List Lit) → Working low seen (lits_of t.entries) b a → implied t.shape.ends b l ≡ true → HasFalse t.shape.ends a n
untrue_calm t low seen n l f e b a m h = clash (sym (working_true t low seen b a l f m h) ∙ e)

pub below-front : (m : ℕ) (seen all : List Seen) (ends : Ends) (l : Lit) → IsFront seen all → implied ends (lits_below m seen) l ≡ true → implied ends (lits_below m all) l ≡ true
below-front m seen all ends l f h =
    subst (λ (ls : List Lit). implied ends ls l ≡ true)
    (sym (lits_seen-append (below m seen) (below m f.0)) ∙ ap lits_seen (sym (filter-append (λ s. nat_lt s.level m) seen f.0)) ∙ ap (λ (ss : List Seen). lits_below m ss) (sym f.1))
    (implied_stays ends (lits_below m seen) (lits_below m f.0) l h)

pub recent_calm : (t : Assignment) (low : ℕ) (seen : List Seen) (n : List Lit) (l : Lit) → IsFront seen (seen_of t.entries) → low ≤ t.level → IsRecent t l → HasFalse t.shape.ends (lits_of t.entries) n → (b a : List Lit) → Working low seen (lits_of t.entries) b a → implied t.shape.ends b l ≡ true → HasFalse t.shape.ends a n
recent_calm t low seen n l f le r has b a (inl m) h =
    let here : implied t.shape.ends (lits_below m.0 seen) l ≡ true = subst (λ (ls : List Lit). implied t.shape.ends ls l ≡ true) m.3 h in
    let under : m.0 ≤ t.level = omega (arith, m.2) in
    clash (sym (below-front m.0 seen (seen_of t.entries) t.shape.ends l f here) ∙ r m.0 m.1 under)
recent_calm t low seen n l f le r has b a (inr m) h = subst (λ (ls : List Lit). HasFalse t.shape.ends ls n) (sym m.1) has

-- levels
less_test : (m k : ℕ) → m < k → nat_lt m k ≡ true
less_test m k h = grind (arith, nat_tests)

more_test : (m k : ℕ) → k ≤ m → nat_lt m k ≡ false
more_test m k h = grind (arith, nat_tests)

pub below_all : (m : ℕ) (seen : List Seen) → AllByRecursion (λ s. s.level < m) seen → below m seen ≡ seen
below_all m [] a = refl
below_all m (x ∷ xs) a = rw (less_test x.level m a.0) (ap (λ (zs : List Seen). x ∷ zs) (below_all m xs a.1))

pub below_out : (m : ℕ) (seen : List Seen) (s : Seen) → m ≤ s.level → below m (seen ++ s ∷ []) ≡ below m seen
below_out m seen s h =
    filter-append (λ r. nat_lt r.level m) seen (s ∷ [])
    ∙ ap (λ b. below m seen ++ cond b (s ∷ []) []) (more_test s.level m h)
    ∙ append-nil (below m seen)

pub below_below : (k m : ℕ) (seen : List Seen) → k ≤ m → below k (below m seen) ≡ below k seen
below_below k m [] h = refl
below_below k m (x ∷ xs) h = cases (nat_lt x.level m) refl (nat_lt x.level k) refl (below_below k m xs h)
  where
    cases : (b : Bool) → nat_lt x.level m ≡ b → (c : Bool) → nat_lt x.level k ≡ c → below k (below m xs) ≡ below k xs → below k (cond b (x ∷ below m xs) (below m xs)) ≡ cond c (x ∷ below k xs) (below k xs)
    cases true e true f rest = rw f (ap (λ (zs : List Seen). x ∷ zs) rest)
    cases true e false f rest = rw f rest
    cases false e true f rest = let more : m ≤ x.level = grind (arith, nat_tests) in let less : x.level < k = grind (arith, nat_tests) in absurd (omega arith)
    cases false e false f rest = rest

-- what is below the level of a cut
pub cut_moment : (low : ℕ) (old new : List Seen) (b a : List Lit) → 1 ≤ low → new ≡ below low old → AllByRecursion (λ s. s.level < low) new → Stored new b a → Left low old b a
cut_moment low old new b a one e all m = cases (nat_lt m.0 low) refl
  where
    cases : (c : Bool) → nat_lt m.0 low ≡ c → Left low old b a
    cases true f =
        let less : m.0 < low = grind (arith, nat_tests) in
        (m.0, m.1, omega (arith, less), m.2 ∙ ap (λ (ss : List Seen). lits_below m.0 ss) e ∙ ap lits_seen (below_below m.0 low old (omega (arith, less))), m.3)
    cases false f =
        let more : low ≤ m.0 = grind (arith, nat_tests) in
        (low, one, omega arith, m.2 ∙ ap lits_seen (below_all m.0 new (wider new all more)) ∙ ap lits_seen e, m.3)
      where
        wider : (ss : List Seen) → AllByRecursion (λ s. s.level < low) ss → low ≤ m.0 → AllByRecursion (λ s. s.level < m.0) ss
        wider [] g h = tt
        wider (s ∷ ss) g h = (omega (arith, g.0), wider ss g.1 h)
