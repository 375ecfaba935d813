-- All instances of the third rule of p(2147483647). q(1..3). r :- p(Y), q(V), V = Y+1.
use Rattle.std.proofs.Common.{◌≡◌, ◌⊎◌, inl, inr, ℕ, zero, suc, true, pos, List, [], ◌∷◌, length, Some, slice_get, refl, sym, ◌∙◌, ap, subst, true≢false, nat_eq, arith, codes}
use Rattle.std.specs.Cmp.Lexicographic.{pointwise}
use Rattle.std.specs.List.{list_all}
use Rattle.symbols.specs.declared.ends.Ends.{Ends}
use Rattle.symbols.specs.declared.rel.Rel.TheVariants as r
use Rattle.symbols.specs.Symbol.{Symbol, Identifier, Number, Function, arguments}
use Rattle.syntax_tree.specs.declared.term.Term.{Term}
use Rattle.syntax_tree.specs.declared.term.Term.TheVariants as t
use Rattle.syntax_tree.specs.Outcome.{Outcome, IsSymbol}
use Rattle.syntax_tree.specs.Value.{value_of}
use Rattle.ground_model.specs.Members.{IsMember, IsApart, Counts}
use Rattle.ground_model.proofs.Bools.{and_elim}
use Rattle.program_meaning.specs.Read.{ReadRule, plains}
use Rattle.program_meaning.specs.Substitution.{Value, Key, worth_of, substituted}
use Rattle.program_meaning.specs.Comparison.{IsSpan, contained, comparison, may_hold}
use Rattle.program_meaning.specs.Instance.{bound_in, literal_stands, IsInstance, IsPossible, IsRelevant, IsRelevantOf}
use Rattle.program_meaning.specs.Outside.{Overflow, IsOutside}
use Rattle.program_meaning.specs.Search.{values_in}
use Rattle.program_meaning.proofs.Binding.{same_worth}
use Rattle.program_meaning.proofs.Examples.{forms, n, v, p}
use Rattle.program_meaning.proofs.Layers
use Rattle.program_meaning.proofs.Matching.{nested_symbol}
use Rattle.program_meaning.proofs.Possible.{ClosedUnder, closed_at}
use Rattle.program_meaning.proofs.Rows.{key, number, atom, q, w, big_fact, few_rule, few_globals, few_bound, few_value, sum_rule, sum_program, sum_globals, sum_values, sum_relevant, sum_outside, big_value}
use Rattle.program_meaning.proofs.Tower.{one_value, argument_of}
use Rattle.program_meaning.proofs.Values.{IsOne, in_span}

abbrev big : ℕ
big = 2147483647

-- the atoms that are possible
abbrev atoms : List Symbol
atoms = atom (codes "p") big ∷ atom (codes "q") 1 ∷ atom (codes "q") 2 ∷ atom (codes "q") 3 ∷ Identifier (codes "r") ∷ []

same_symbol : (b c : Symbol) → IsSymbol b ≡ IsSymbol c → b ≡ c
same_symbol b c e = cc

big_closed : ClosedUnder sum_program (IsMember atoms) big_fact
big_closed values stands positive a g = inl (same_symbol a (atom (codes "p") big) (sym g ∙ big_value (bound_in big_fact values)))

-- V is 1, 2 or 3
abbrev IsFew : List Value → Type 0
IsFew values = (values ≡ number 1 ∷ []) ⊎ ((values ≡ number 2 ∷ []) ⊎ (values ≡ number 3 ∷ []))

few_values : (values : List Value) → IsInstance few_rule values → IsFew values
few_values values stands =
    let x = one_value values (stands.each ∙ ap length few_globals) in
    let body = subst (λ vs. list_all (literal_stands (plains few_rule.body) (bound_in few_rule vs)) few_rule.body ≡ true) x.1 stands.body in
    let at = subst (λ b. list_all (literal_stands (plains few_rule.body) b) few_rule.body ≡ true) (few_bound x.0) body in
    let holds = (and_elim (may_hold (comparison (plains few_rule.body) (worth_of x.0 ∷ []) v r.Equal (t.Interval (n 1) (n 3)))) true at).0 in
    go x.0 x.1 ((in_span (worth_of x.0) (IsSpan (pos 1) (pos 3))).0 (sym (ap may_hold (within x.0)) ∙ holds))
  where
    within : (x : Value) → comparison (plains few_rule.body) (worth_of x ∷ []) v r.Equal (t.Interval (n 1) (n 3)) ≡ contained true (worth_of x) (IsSpan (pos 1) (pos 3))
    within x = simp forms

    go : (x : Value) → values ≡ x ∷ [] → IsOne (values_in (IsSpan (pos 1) (pos 3))) (worth_of x) → IsFew values
    go x e (val, inl m, u) = inl (e ∙ ap (λ y. y ∷ []) (same_worth x val u ∙ m))
    go x e (val, inr (inl m), u) = inr (inl (e ∙ ap (λ y. y ∷ []) (same_worth x val u ∙ m)))
    go x e (val, inr (inr (inl m)), u) = inr (inr (e ∙ ap (λ y. y ∷ []) (same_worth x val u ∙ m)))
    go x e (val, inr (inr (inr m)), u) = absurd m

few_closed : ClosedUnder sum_program (IsMember atoms) few_rule
few_closed values stands positive a g = go (few_values values stands)
  where
    it : (k : ℕ) → values ≡ number k ∷ [] → a ≡ atom (codes "q") k
    it k e = same_symbol a (atom (codes "q") k) (sym g ∙ ap (λ vs. value_of (bound_in few_rule vs) (q v)) e ∙ few_value k)

    go : IsFew values → IsMember atoms a
    go (inl e) = inr (inl (it 1 e))
    go (inr (inl e)) = inr (inr (inl (it 2 e)))
    go (inr (inr e)) = inr (inr (inr (inl (it 3 e))))

r_value : (bound : List Outcome) → value_of bound (t.Function (codes "r") []) ≡ IsSymbol (Identifier (codes "r"))
r_value bound = Layers.value_of-Function bound (codes "r") []

sum_closed : ClosedUnder sum_program (IsMember atoms) sum_rule
sum_closed values stands positive a g =
    inr (inr (inr (inr (inl (same_symbol a (Identifier (codes "r")) (sym g ∙ r_value (bound_in sum_rule values)))))))

closed : (rule : ReadRule) → IsMember sum_program rule → ClosedUnder sum_program (IsMember atoms) rule
closed rule (inl e) = subst (ClosedUnder sum_program (IsMember atoms)) (sym e) big_closed
closed rule (inr (inl e)) = subst (ClosedUnder sum_program (IsMember atoms)) (sym e) few_closed
closed rule (inr (inr (inl e))) = subst (ClosedUnder sum_program (IsMember atoms)) (sym e) sum_closed
closed rule (inr (inr (inr m))) = absurd m

only_possible : (a : Symbol) → IsPossible sum_program a → IsMember atoms a
only_possible a possible = closed_at sum_program (IsMember atoms) closed possible.0 a possible.1

-- ---- its instances

two_values : (values : List Value) → length values ≡ 2 → (x : Value) × (y : Value) × (values ≡ x ∷ y ∷ [])
two_values [] e = cc
two_values (x ∷ []) e = cc
two_values (x ∷ y ∷ []) e = (x, y, refl)
two_values (x ∷ y ∷ z ∷ rest) e = cc

-- a name with an argument is no identifier
no_identifier : (bound : List Outcome) (name : List ℕ) (term : Term) → value_of bound (t.Function name (term ∷ [])) ≡ IsSymbol (Identifier (codes "r")) → ⊥
no_identifier bound name term e =
    let args = nested_symbol name (value_of bound term ∷ []) (Identifier (codes "r")) (sym (Layers.value_of-Function bound name (term ∷ [])) ∙ e) in
    apart args.0 args.2
  where
    apart : (symbols : List Symbol) → Identifier (codes "r") ≡ Function name (arguments symbols) → ⊥
    apart symbols e = cc

p_names_q : codes "p" ≡ codes "q" → ⊥
p_names_q e = true≢false (ap (pointwise nat_eq (codes "p")) e)

q_names_p : codes "q" ≡ codes "p" → ⊥
q_names_p e = true≢false (ap (pointwise nat_eq (codes "q")) e)

-- where p(Y) is possible, Y is 2147483647
p_argument : (bound : List Outcome) (a : Symbol) → value_of bound (p v) ≡ IsSymbol a → IsMember atoms a → value_of bound v ≡ IsSymbol (Number (pos big))
p_argument bound a e (inl m) = (argument_of bound (codes "p") (codes "p") v (Number (pos big)) (e ∙ ap IsSymbol m)).1
p_argument bound a e (inr (inl m)) = absurd (p_names_q (argument_of bound (codes "p") (codes "q") v (Number (pos 1)) (e ∙ ap IsSymbol m)).0)
p_argument bound a e (inr (inr (inl m))) = absurd (p_names_q (argument_of bound (codes "p") (codes "q") v (Number (pos 2)) (e ∙ ap IsSymbol m)).0)
p_argument bound a e (inr (inr (inr (inl m)))) = absurd (p_names_q (argument_of bound (codes "p") (codes "q") v (Number (pos 3)) (e ∙ ap IsSymbol m)).0)
p_argument bound a e (inr (inr (inr (inr (inl m))))) = absurd (no_identifier bound (codes "p") v (e ∙ ap IsSymbol m))
p_argument bound a e (inr (inr (inr (inr (inr m))))) = absurd m

-- where q(V) is possible, V is 1, 2 or 3
abbrev IsOneToThree : Outcome → Type 0
IsOneToThree o = (o ≡ IsSymbol (Number (pos 1))) ⊎ ((o ≡ IsSymbol (Number (pos 2))) ⊎ (o ≡ IsSymbol (Number (pos 3))))

q_argument : (bound : List Outcome) (a : Symbol) → value_of bound (q w) ≡ IsSymbol a → IsMember atoms a → IsOneToThree (value_of bound w)
q_argument bound a e (inl m) = absurd (q_names_p (argument_of bound (codes "q") (codes "p") w (Number (pos big)) (e ∙ ap IsSymbol m)).0)
q_argument bound a e (inr (inl m)) = inl (argument_of bound (codes "q") (codes "q") w (Number (pos 1)) (e ∙ ap IsSymbol m)).1
q_argument bound a e (inr (inr (inl m))) = inr (inl (argument_of bound (codes "q") (codes "q") w (Number (pos 2)) (e ∙ ap IsSymbol m)).1)
q_argument bound a e (inr (inr (inr (inl m)))) = inr (inr (argument_of bound (codes "q") (codes "q") w (Number (pos 3)) (e ∙ ap IsSymbol m)).1)
q_argument bound a e (inr (inr (inr (inr (inl m))))) = absurd (no_identifier bound (codes "q") w (e ∙ ap IsSymbol m))
q_argument bound a e (inr (inr (inr (inr (inr m))))) = absurd m

abbrev keys : List Key
keys = key 2 (sum_values 1) ∷ key 2 (sum_values 2) ∷ key 2 (sum_values 3) ∷ []

abbrev IsThree : List Value → Type 0
IsThree values = (values ≡ sum_values 1) ⊎ ((values ≡ sum_values 2) ⊎ (values ≡ sum_values 3))

three_values : (other : Key) → IsRelevantOf sum_program other sum_rule → IsThree other.values
three_values other relevant =
    let x = two_values other.values (relevant.stands.each ∙ ap length sum_globals) in
    let first = relevant.positive.0 in
    let second = relevant.positive.1.0 in
    go x.0 x.1 x.2
    (subst (λ vs. value_of (bound_in sum_rule vs) v ≡ IsSymbol (Number (pos big))) x.2
    (p_argument (bound_in sum_rule other.values) first.0 first.1 (only_possible first.0 first.2)))
    (subst (λ vs. IsOneToThree (value_of (bound_in sum_rule vs) w)) x.2
    (q_argument (bound_in sum_rule other.values) second.0 second.1 (only_possible second.0 second.2)))
  where
    bound : (x y : Value) → bound_in sum_rule (x ∷ y ∷ []) ≡ worth_of x ∷ worth_of y ∷ []
    bound x y = ap (λ gs. substituted 2 gs (x ∷ y ∷ [])) sum_globals

    worth_first : (x y : Value) → value_of (bound_in sum_rule (x ∷ y ∷ [])) v ≡ worth_of x
    worth_first x y = ap (λ b. value_of b v) (bound x y) ∙ Layers.value_of-Variable (worth_of x ∷ worth_of y ∷ []) 1

    worth_second : (x y : Value) → value_of (bound_in sum_rule (x ∷ y ∷ [])) w ≡ worth_of y
    worth_second x y = ap (λ b. value_of b w) (bound x y) ∙ Layers.value_of-Variable (worth_of x ∷ worth_of y ∷ []) 2

    pair : (x y : Value) (k : ℕ) → other.values ≡ x ∷ y ∷ [] → x ≡ number big → value_of (bound_in sum_rule (x ∷ y ∷ [])) w ≡ IsSymbol (Number (pos k)) → other.values ≡ sum_values k
    pair x y k e f g = e ∙ (let h = same_worth y (number k) (sym (worth_second x y) ∙ g) in λ i. f i ∷ h i ∷ [])

    go : (x y : Value) → other.values ≡ x ∷ y ∷ [] → value_of (bound_in sum_rule (x ∷ y ∷ [])) v ≡ IsSymbol (Number (pos big))
        → IsOneToThree (value_of (bound_in sum_rule (x ∷ y ∷ [])) w) → IsThree other.values
    go x y e f (inl g) = inl (pair x y 1 e (same_worth x (number big) (sym (worth_first x y) ∙ f)) g)
    go x y e f (inr (inl g)) = inr (inl (pair x y 2 e (same_worth x (number big) (sym (worth_first x y) ∙ f)) g))
    go x y e f (inr (inr g)) = inr (inr (pair x y 3 e (same_worth x (number big) (sym (worth_first x y) ∙ f)) g))

-- a relevant instance of the third rule
abbrev IsOfThird : Key → Type 0
IsOfThird other = (other.place ≡ 2) × IsRelevant sum_program other

third : (c : ReadRule) (place : ℕ) → place ≡ 2 → slice_get sum_program place ≡ Some c → c ≡ sum_rule
third c zero e f = cc
third c (suc zero) e f = cc
third c (suc (suc zero)) e f = cc
third c (suc (suc (suc place))) e f = cc

same_key : (one other : Key) → one.place ≡ other.place → one.values ≡ other.values → one ≡ other
same_key one other e f = λ i. record { place = e i; values = f i }

listed : (other : Key) → IsOfThird other → IsMember keys other
listed other (e, (c, relevant)) = go (three_values other (subst (IsRelevantOf sum_program other) (third c other.place e relevant.place) relevant))
  where
    go : IsThree other.values → IsMember keys other
    go (inl f) = inl (same_key other (key 2 (sum_values 1)) e f)
    go (inr (inl f)) = inr (inl (same_key other (key 2 (sum_values 2)) e f))
    go (inr (inr f)) = inr (inr (inl (same_key other (key 2 (sum_values 3)) e f)))

are_third : (other : Key) → IsMember keys other → IsOfThird other
are_third other (inl e) = subst IsOfThird (sym e) (refl, (sum_rule, sum_relevant 1 refl))
are_third other (inr (inl e)) = subst IsOfThird (sym e) (refl, (sum_rule, sum_relevant 2 refl))
are_third other (inr (inr (inl e))) = subst IsOfThird (sym e) (refl, (sum_rule, sum_relevant 3 refl))
are_third other (inr (inr (inr m))) = absurd m

apart_by : (j k : ℕ) → key 2 (sum_values j) ≡ key 2 (sum_values k) → j ≡ k
apart_by j k e = second (ap (λ z. z.values) e)
  where
    second : sum_values j ≡ sum_values k → j ≡ k
    second f = cc

apart : IsApart keys
apart = (
  λ m. first m,
  (λ m. later m, (λ m. m, tt)),
)
  where
    first : IsMember (key 2 (sum_values 2) ∷ key 2 (sum_values 3) ∷ []) (key 2 (sum_values 1)) → ⊥
    first (inl e) = let f = apart_by 1 2 e in omega (arith, f)
    first (inr (inl e)) = let f = apart_by 1 3 e in omega (arith, f)
    first (inr (inr m)) = m

    later : IsMember (key 2 (sum_values 3) ∷ []) (key 2 (sum_values 2)) → ⊥
    later (inl e) = let f = apart_by 2 3 e in omega (arith, f)
    later (inr m) = m

-- the third rule has exactly three instances, and each is outside by Overflow
three_instances : Counts IsOfThird 3
three_instances = (keys, refl, apart, λ other. (are_third other, listed other))

each_outside : (ends : Ends) (other : Key) → IsOfThird other → IsOutside sum_program ends other Overflow
each_outside ends other o = go (listed other o)
  where
    go : IsMember keys other → IsOutside sum_program ends other Overflow
    go (inl e) = subst (λ k. IsOutside sum_program ends k Overflow) (sym e) (sum_outside ends 1 refl)
    go (inr (inl e)) = subst (λ k. IsOutside sum_program ends k Overflow) (sym e) (sum_outside ends 2 refl)
    go (inr (inr (inl e))) = subst (λ k. IsOutside sum_program ends k Overflow) (sym e) (sum_outside ends 3 refl)
    go (inr (inr (inr m))) = absurd m
