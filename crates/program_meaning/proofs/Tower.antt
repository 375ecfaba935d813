-- The definitions on p0(0). and five rules p1(F) :- p0(X). to p5(F) :- p4(X)., where F is 60 times f round X: the sixth line is outside.
use Rattle.std.proofs.Common.{◌≡◌, ◌≤◌, ◌<◌, ◌⊎◌, inl, inr, ℕ, zero, suc, ◌+◌, ◌*◌, max, nat_le, Bool, true, false, ◌&&◌, ◌||◌, pos, List, [], ◌∷◌, length, Some, slice_get, if◌then◌else◌, refl, sym, ◌∙◌, ap, subst, true≢false, arith, codes}
use Rattle.std.specs.List.{list_any}
use Rattle.std.specs.declared.cmp.Ordering.TheVariants.{Less}
use Rattle.std.proofs.lemmas.Bool.Decides.{nat_tests}
use Rattle.symbols.specs.declared.ends.Ends.{Ends}
use Rattle.symbols.specs.Symbol.{Symbol, Number, Function, arguments, depth}
use Rattle.syntax_tree.specs.declared.term.Term.{Term}
use Rattle.syntax_tree.specs.declared.term.Term.TheVariants as t
use Rattle.syntax_tree.specs.Outcome.{Outcome, IsSymbol, IsOver}
use Rattle.syntax_tree.specs.Value.{named, value_of}
use Rattle.ground_model.specs.Members.{IsMember}
use Rattle.ground_model.proofs.Bools.{or_left, or_right}
use Rattle.program_meaning.specs.Read.{PlainAtom, ReadTheory, ReadPlain, ReadChoice, ReadAtom, ReadRule, plains}
use Rattle.program_meaning.specs.Variables.{globals, occurs_in_head, occurs_in_literal}
use Rattle.program_meaning.specs.Substitution.{Value, SymbolValue, Key, worth_of, substituted, key_cmp}
use Rattle.program_meaning.specs.Count.{choices_in}
use Rattle.program_meaning.specs.Instance.{bound_in, IsInstance, PossibleAt, IsPossible, IsRelevantOf}
use Rattle.program_meaning.specs.Outside.{Cause, Overflow, NotLinear, TooManyElements, TooLarge, HasCause, RuleOver, ChoiceOver, ElementOver, GuardNotLinear, ElementNotLinear, GuardLarge, ElementLarge, TotalLarge, ValueLarge, head_over, literal_over, is_rule_over, IsSomehowOutside, IsFirstOutside}
use Rattle.program_meaning.specs.Theory.{is_defined, is_over}
use Rattle.program_meaning.specs.Tuples.{theories}
use Rattle.program_meaning.proofs.Binding.{same_worth}
use Rattle.program_meaning.proofs.Examples.{n, v}
use Rattle.program_meaning.proofs.Layers
use Rattle.program_meaning.proofs.Matching.{AreThese, nested_symbol}
use Rattle.program_meaning.proofs.Possible.{ClosedUnder, closed_at}
use Rattle.program_meaning.proofs.Rows.{places, rule, key}

-- ---- words that rows share

pub one_value : (values : List Value) → length values ≡ 1 → (x : Value) × (values ≡ x ∷ [])
one_value [] e = cc
one_value (x ∷ []) e = (x, refl)
one_value (x ∷ y ∷ rest) e = cc

-- where a name with one argument is this symbol, the names are the same, and the argument is the symbol's
pub argument_of : (bound : List Outcome) (name other : List ℕ) (term : Term) (a : Symbol)
    → value_of bound (t.Function name (term ∷ [])) ≡ IsSymbol (Function other (arguments (a ∷ [])))
    → (name ≡ other) × (value_of bound term ≡ IsSymbol a)
argument_of bound name other term a e =
    let args = nested_symbol name (value_of bound term ∷ []) (Function other (arguments (a ∷ []))) (sym (Layers.value_of-Function bound name (term ∷ [])) ∙ e) in
    one args.0 args.1 args.2
  where
    first : (b c : Symbol) → Function other (arguments (b ∷ [])) ≡ Function name (arguments (c ∷ [])) → b ≡ c
    first b c e = cc

    names : (b c : Symbol) → Function other (arguments (b ∷ [])) ≡ Function name (arguments (c ∷ [])) → name ≡ other
    names b c e = cc

    none : Function other (arguments (a ∷ [])) ≡ Function name (arguments []) → ⊥
    none e = cc

    one : (symbols : List Symbol) → AreThese (value_of bound term ∷ []) symbols → Function other (arguments (a ∷ [])) ≡ Function name (arguments symbols)
        → (name ≡ other) × (value_of bound term ≡ IsSymbol a)
    one [] these same = absurd these
    one (b ∷ []) these same = (names a b same, these.0 ∙ ap IsSymbol (sym (first a b same)))
    one (b ∷ other ∷ more) these same = absurd these.1

-- a rule without theory atoms and choices is outside only where a term or a comparison of it is over
pub only_over : (P : Symbol → Type 0) (ends : Ends) (rule : ReadRule) (values : List Value)
    → ((theory : ReadTheory) → IsMember (theories rule) theory → ⊥)
    → ((place : ℕ) (element : ReadChoice) → slice_get (choices_in rule.head) place ≡ Some element → ⊥)
    → (cause : Cause) → HasCause P ends rule values cause → is_rule_over rule values ≡ true
only_over P ends rule values told chosen Overflow (RuleOver e) = e
only_over P ends rule values told chosen Overflow (ChoiceOver part element r e) = absurd (chosen part.place element r.place)
only_over P ends rule values told chosen Overflow (ElementOver theory m part element r e) = absurd (told theory m)
only_over P ends rule values told chosen NotLinear (GuardNotLinear theory m e) = absurd (told theory m)
only_over P ends rule values told chosen NotLinear (ElementNotLinear theory m part element r e) = absurd (told theory m)
only_over P ends rule values told chosen TooManyElements h = absurd (told h.0 h.1)
only_over P ends rule values told chosen TooLarge (GuardLarge theory m e) = absurd (told theory m)
only_over P ends rule values told chosen TooLarge (ElementLarge theory m part element r e) = absurd (told theory m)
only_over P ends rule values told chosen TooLarge (TotalLarge theory m e) = absurd (told theory m)
only_over P ends rule values told chosen TooLarge (ValueLarge theory m e) = absurd (told theory m)

-- ---- f so many times round 0, and round X

nest : ℕ → Symbol
nest zero = Number (pos 0)
nest (suc k) = Function (codes "f") (arguments (nest k ∷ []))

nest_zero : nest 0 ≡ Number (pos 0)
unfolding nest
nest_zero = refl

round : ℕ → Term
round zero = v
round (suc k) = t.Function (codes "f") (round k ∷ [])

max_zero : (k : ℕ) → max k 0 ≡ k
max_zero k = omega arith

depth_nest : (k : ℕ) → depth (nest k) ≡ k
unfolding nest
depth_nest zero = refl
depth_nest (suc k) = ap (λ d. suc (max d 0)) (depth_nest k) ∙ ap suc (max_zero k)

at_most : (a b : ℕ) → a ≤ b → nat_le a b ≡ true
at_most a b l = grind (arith, nat_tests)

more_than : (a b : ℕ) → b < a → nat_le a b ≡ false
more_than a b l = grind (arith, nat_tests)

deep_as : (name : List ℕ) (k : ℕ) → nat_le (depth (Function name (arguments (nest k ∷ [])))) 256 ≡ nat_le (suc k) 256
deep_as name k = ap (λ d. nat_le (suc (max d 0)) 256) (depth_nest k) ∙ ap (λ d. nat_le (suc d) 256) (max_zero k)

-- a name round it fits up to depth 256, and is over behind that
wrapped : (name : List ℕ) (k : ℕ) → k < 256 → named name (IsSymbol (nest k) ∷ []) ≡ IsSymbol (Function name (arguments (nest k ∷ [])))
wrapped name k l =
    ap (λ b. if b then IsSymbol (Function name (arguments (nest k ∷ []))) else IsOver) (deep_as name k ∙ at_most (suc k) 256 (omega (arith, l)))

too_deep : (name : List ℕ) (k : ℕ) → 256 ≤ k → named name (IsSymbol (nest k) ∷ []) ≡ IsOver
too_deep name k l =
    ap (λ b. if b then IsSymbol (Function name (arguments (nest k ∷ []))) else IsOver) (deep_as name k ∙ more_than (suc k) 256 (omega (arith, l)))

one_more : (k : ℕ) → k < 256 → named (codes "f") (IsSymbol (nest k) ∷ []) ≡ IsSymbol (nest (suc k))
unfolding nest
one_more k l = wrapped (codes "f") k l

round_fits : (bound : List Outcome) (j : ℕ) → value_of bound v ≡ IsSymbol (nest j) → (k : ℕ) → k + j ≤ 256 → value_of bound (round k) ≡ IsSymbol (nest (k + j))
unfolding round
round_fits bound j e zero l = e ∙ ap (λ m. IsSymbol (nest m)) (none j)
  where
    none : (j : ℕ) → j ≡ 0 + j
    none j = omega arith
round_fits bound j e (suc k) l =
    Layers.value_of-Function bound (codes "f") (round k ∷ [])
    ∙ ap (λ o. named (codes "f") (o ∷ [])) (round_fits bound j e k (omega (arith, l)))
    ∙ one_more (k + j) (omega (arith, l))
    ∙ ap (λ m. IsSymbol (nest m)) (next k j)
  where
    next : (k j : ℕ) → suc (k + j) ≡ suc k + j
    next k j = omega arith

round_over : (bound : List Outcome) (j : ℕ) → value_of bound v ≡ IsSymbol (nest j) → j ≤ 256 → (k : ℕ) → 256 < k + j → value_of bound (round k) ≡ IsOver
unfolding round
round_over bound j e m zero l = absurd (omega (arith, l, m))
round_over bound j e m (suc k) l =
    Layers.value_of-Function bound (codes "f") (round k ∷ []) ∙ go (nat_le (k + j) 256) refl (round_over bound j e m k)
  where
    within : (a : ℕ) → nat_le a 256 ≡ true → a ≤ 256
    within a t = grind (arith, nat_tests)

    behind : (a : ℕ) → nat_le a 256 ≡ false → 256 < a
    behind a t = grind (arith, nat_tests)

    go : (b : Bool) → nat_le (k + j) 256 ≡ b → (256 < k + j → value_of bound (round k) ≡ IsOver) → named (codes "f") (value_of bound (round k) ∷ []) ≡ IsOver
    go true t rec =
        ap (λ o. named (codes "f") (o ∷ [])) (round_fits bound j e k (within (k + j) t)) ∙ too_deep (codes "f") (k + j) (omega (arith, l))
    go false t rec = ap (λ o. named (codes "f") (o ∷ [])) (rec (behind (k + j) t))

-- ---- the program

abbrev name_at : ℕ → List ℕ
name_at k = 112 ∷ (48 + k) ∷ []

abbrev fact : ReadRule
fact = rule (ReadAtom (t.Function (name_at 0) (n 0 ∷ []))) [] []

abbrev head_at : ℕ → Term
head_at i = t.Function (name_at (suc i)) (round 60 ∷ [])

abbrev body_at : ℕ → Term
body_at i = t.Function (name_at i) (v ∷ [])

abbrev step : ℕ → ReadRule
step i = rule (ReadAtom (head_at i)) (ReadPlain (PlainAtom (body_at i) true) ∷ []) (1 ∷ [])

abbrev tower : List ReadRule
tower = fact ∷ step 0 ∷ step 1 ∷ step 2 ∷ step 3 ∷ step 4 ∷ []

abbrev atom_at : ℕ → Symbol
atom_at i = Function (name_at i) (arguments (nest (60 * i) ∷ []))

abbrev IsTower : Symbol → Type 0
IsTower a = (i : ℕ) × (i ≤ 4) × (a ≡ atom_at i)

step_place : (i : ℕ) → i ≤ 4 → slice_get tower (suc i) ≡ Some (step i)
step_place zero l = refl
step_place (suc zero) l = refl
step_place (suc (suc zero)) l = refl
step_place (suc (suc (suc zero))) l = refl
step_place (suc (suc (suc (suc zero)))) l = refl
step_place (suc (suc (suc (suc (suc i))))) l = absurd (omega (arith, l))

step_member : (i : ℕ) → i ≤ 4 → IsMember tower (step i)
step_member zero l = inr (inl refl)
step_member (suc zero) l = inr (inr (inl refl))
step_member (suc (suc zero)) l = inr (inr (inr (inl refl)))
step_member (suc (suc (suc zero))) l = inr (inr (inr (inr (inl refl))))
step_member (suc (suc (suc (suc zero)))) l = inr (inr (inr (inr (inr (inl refl)))))
step_member (suc (suc (suc (suc (suc i))))) l = absurd (omega (arith, l))

-- the rule at a place: the fact, or a step
abbrev AtPlace : ℕ → ReadRule → Type 0
AtPlace place c = (c ≡ fact) ⊎ ((i : ℕ) × (i ≤ 4) × (place ≡ suc i) × (c ≡ step i))

at_place : (c : ReadRule) (place : ℕ) → slice_get tower place ≡ Some c → AtPlace place c
at_place c zero e = inl cc
at_place c (suc zero) e = inr (0, omega arith, refl, cc)
at_place c (suc (suc zero)) e = inr (1, omega arith, refl, cc)
at_place c (suc (suc (suc zero))) e = inr (2, omega arith, refl, cc)
at_place c (suc (suc (suc (suc zero)))) e = inr (3, omega arith, refl, cc)
at_place c (suc (suc (suc (suc (suc zero))))) e = inr (4, omega arith, refl, cc)
at_place c (suc (suc (suc (suc (suc (suc place)))))) e = cc

last_or_before : (i : ℕ) → i ≤ 4 → (i ≤ 3) ⊎ (i ≡ 4)
last_or_before i l = go (nat_le i 3) refl
  where
    within : (a : ℕ) → nat_le a 3 ≡ true → a ≤ 3
    within a t = grind (arith, nat_tests)

    behind : (a : ℕ) → a ≤ 4 → nat_le a 3 ≡ false → a ≡ 4
    behind a m t = grind (arith, nat_tests)

    go : (b : Bool) → nat_le i 3 ≡ b → (i ≤ 3) ⊎ (i ≡ 4)
    go true t = inl (within i t)
    go false t = inr (behind i l t)

-- ---- substitutions

step_globals : (i : ℕ) → globals (step i) ≡ 1 ∷ []
step_globals i =
    ap (λ b. if b then 1 ∷ [] else []) (or_right (occurs_in_head 1 (ReadAtom (head_at i))) (list_any (occurs_in_literal 1) (step i).body) (bound i))
  where
    bound : (i : ℕ) → list_any (occurs_in_literal 1) (step i).body ≡ true
    bound i = simp places

step_bound : (i : ℕ) (x : Value) → bound_in (step i) (x ∷ []) ≡ worth_of x ∷ []
step_bound i x = ap (λ gs. substituted 1 gs (x ∷ [])) (step_globals i)

worth_in : (i : ℕ) (x : Value) → value_of (bound_in (step i) (x ∷ [])) v ≡ worth_of x
worth_in i x = ap (λ b. value_of b v) (step_bound i x) ∙ Layers.value_of-Variable (worth_of x ∷ []) 1

-- ---- what heads and bodies are worth, where X is f so many times round 0

fact_value : (bound : List Outcome) → value_of bound (t.Function (name_at 0) (n 0 ∷ [])) ≡ IsSymbol (atom_at 0)
fact_value bound =
    Layers.value_of-Function bound (name_at 0) (n 0 ∷ [])
    ∙ ap (λ o. named (name_at 0) (o ∷ [])) (Layers.value_of-Number bound (pos 0) ∙ ap IsSymbol (sym nest_zero))
    ∙ wrapped (name_at 0) 0 (omega arith)

body_value : (bound : List Outcome) (i : ℕ) → i ≤ 4 → value_of bound v ≡ IsSymbol (nest (60 * i)) → value_of bound (body_at i) ≡ IsSymbol (atom_at i)
body_value bound i l e =
    Layers.value_of-Function bound (name_at i) (v ∷ []) ∙ ap (λ o. named (name_at i) (o ∷ [])) e ∙ wrapped (name_at i) (60 * i) (omega (arith, l))

head_value : (bound : List Outcome) (i : ℕ) → i ≤ 3 → value_of bound v ≡ IsSymbol (nest (60 * i)) → value_of bound (head_at i) ≡ IsSymbol (atom_at (suc i))
head_value bound i l e =
    Layers.value_of-Function bound (name_at (suc i)) (round 60 ∷ [])
    ∙ ap (λ o. named (name_at (suc i)) (o ∷ [])) (round_fits bound (60 * i) e 60 (omega (arith, l)) ∙ ap (λ m. IsSymbol (nest m)) (next i))
    ∙ wrapped (name_at (suc i)) (60 * suc i) (omega (arith, l))
  where
    next : (i : ℕ) → 60 + 60 * i ≡ 60 * suc i
    next i = omega arith

head_too_deep : (bound : List Outcome) → value_of bound v ≡ IsSymbol (nest (60 * 4)) → value_of bound (head_at 4) ≡ IsOver
head_too_deep bound e =
    Layers.value_of-Function bound (name_at 5) (round 60 ∷ [])
    ∙ ap (λ o. named (name_at 5) (o ∷ [])) (round_over bound (60 * 4) e (omega arith) 60 (omega arith))

head_defined : (bound : List Outcome) (i : ℕ) → i ≤ 4 → value_of bound v ≡ IsSymbol (nest (60 * i)) → is_defined (value_of bound (head_at i)) ≡ true
head_defined bound i l e = go (last_or_before i l)
  where
    go : (i ≤ 3) ⊎ (i ≡ 4) → is_defined (value_of bound (head_at i)) ≡ true
    go (inl m) = ap is_defined (head_value bound i m e)
    go (inr f) =
        subst (λ j. is_defined (value_of bound (head_at j)) ≡ true) (sym f)
        (ap is_defined (head_too_deep bound (subst (λ j. value_of bound v ≡ IsSymbol (nest (60 * j))) f e)))

-- ---- instances and possible atoms

abbrev values_at : ℕ → List Value
values_at i = SymbolValue (nest (60 * i)) ∷ []

stands_at : (i : ℕ) → i ≤ 4 → IsInstance (step i) (values_at i)
stands_at i l =
    let worth = worth_in i (SymbolValue (nest (60 * i))) in record {
      each = sym (ap length (step_globals i));
      head = head_defined (bound_in (step i) (values_at i)) i l worth;
      body = ap (λ o. is_defined o && true) (body_value (bound_in (step i) (values_at i)) i l worth);
    }

possible_at : (i : ℕ) → i ≤ 4 → PossibleAt tower (suc i) (atom_at i)
possible_at zero l = (fact, inl refl, [], record { each = refl; head = ap is_defined (fact_value []); body = refl }, fact_value [], tt)
possible_at (suc i) l =
    let worth = worth_in i (SymbolValue (nest (60 * i))) in (
      step i,
      step_member i (omega (arith, l)),
      values_at i,
      stands_at i (omega (arith, l)),
      head_value (bound_in (step i) (values_at i)) i (omega (arith, l)) worth,
      ((atom_at i, body_value (bound_in (step i) (values_at i)) i (omega (arith, l)) worth, possible_at i (omega (arith, l))), tt),
    )

relevant_at : (i : ℕ) → i ≤ 4 → IsRelevantOf tower (key (suc i) (values_at i)) (step i)
relevant_at i l = record {
  place = step_place i l;
  stands = stands_at i l;
  positive = ((atom_at i, body_value (bound_in (step i) (values_at i)) i l (worth_in i (SymbolValue (nest (60 * i)))), (suc i, possible_at i l)), tt);
}

-- ---- no others

same_name : (i j : ℕ) → name_at i ≡ name_at j → i ≡ j
same_name i j e = let f = code e in omega (arith, f)
  where
    code : name_at i ≡ name_at j → 48 + i ≡ 48 + j
    code e = cc

same_symbol : (b c : Symbol) → IsSymbol b ≡ IsSymbol c → b ≡ c
same_symbol b c e = cc

reads : (bound : List Outcome) (i : ℕ) (b : Symbol) → value_of bound (body_at i) ≡ IsSymbol b → IsTower b → value_of bound v ≡ IsSymbol (nest (60 * i))
reads bound i b e (j, l, f) =
    let r = argument_of bound (name_at i) (name_at j) v (nest (60 * j)) (e ∙ ap IsSymbol f) in
    subst (λ m. value_of bound v ≡ IsSymbol (nest (60 * m))) (sym (same_name i j r.0)) r.1

over_symbol : (b : Symbol) → IsOver ≡ IsSymbol b → ⊥
over_symbol b e = cc

step_closed : (i : ℕ) → i ≤ 4 → ClosedUnder tower IsTower (step i)
step_closed i l values stands positive a g =
    go (reads (bound_in (step i) values) i positive.0.0 positive.0.1 positive.0.2) (last_or_before i l)
  where
    go : value_of (bound_in (step i) values) v ≡ IsSymbol (nest (60 * i)) → (i ≤ 3) ⊎ (i ≡ 4) → IsTower a
    go e (inl m) = (suc i, omega (arith, m), same_symbol a (atom_at (suc i)) (sym g ∙ head_value (bound_in (step i) values) i m e))
    go e (inr f) =
        absurd (over_symbol a
        (sym (head_too_deep (bound_in (step i) values) (subst (λ j. value_of (bound_in (step i) values) v ≡ IsSymbol (nest (60 * j))) f e))
        ∙ subst (λ j. value_of (bound_in (step i) values) (head_at j) ≡ IsSymbol a) f g))

fact_closed : ClosedUnder tower IsTower fact
fact_closed values stands positive a g = (0, omega arith, same_symbol a (atom_at 0) (sym g ∙ fact_value (bound_in fact values)))

closed : (c : ReadRule) → IsMember tower c → ClosedUnder tower IsTower c
closed c (inl e) = subst (ClosedUnder tower IsTower) (sym e) fact_closed
closed c (inr (inl e)) = subst (ClosedUnder tower IsTower) (sym e) (step_closed 0 (omega arith))
closed c (inr (inr (inl e))) = subst (ClosedUnder tower IsTower) (sym e) (step_closed 1 (omega arith))
closed c (inr (inr (inr (inl e)))) = subst (ClosedUnder tower IsTower) (sym e) (step_closed 2 (omega arith))
closed c (inr (inr (inr (inr (inl e))))) = subst (ClosedUnder tower IsTower) (sym e) (step_closed 3 (omega arith))
closed c (inr (inr (inr (inr (inr (inl e)))))) = subst (ClosedUnder tower IsTower) (sym e) (step_closed 4 (omega arith))
closed c (inr (inr (inr (inr (inr (inr m)))))) = absurd m

possible_only : (a : Symbol) → IsPossible tower a → IsTower a
possible_only a p = closed_at tower IsTower closed p.0 a p.1

-- ---- the first outside is the rule of the sixth line, with 240 times f round 0

step_inside : (i : ℕ) → i ≤ 3 → (values : List Value) → value_of (bound_in (step i) values) v ≡ IsSymbol (nest (60 * i)) → is_rule_over (step i) values ≡ false
step_inside i l values e = λ k.
    is_over (head_value (bound_in (step i) values) i l e k) || (is_over (body_value (bound_in (step i) values) i (omega (arith, l)) e k) || false)

fact_inside : (values : List Value) → is_rule_over fact values ≡ false
fact_inside values = ap (λ o. is_over o || false) (fact_value (bound_in fact values))

no_theory : (theory : ReadTheory) → IsMember [] theory → ⊥
no_theory theory m = m

no_choice : (place : ℕ) (element : ReadChoice) → slice_get [] place ≡ Some element → ⊥
no_choice place element e = cc

sixth_over : is_rule_over (step 4) (values_at 4) ≡ true
sixth_over =
    or_left (head_over (bound_in (step 4) (values_at 4)) (step 4).head) (list_any (literal_over (plains (step 4).body) (bound_in (step 4) (values_at 4))) (step 4).body)
    (ap is_over (head_too_deep (bound_in (step 4) (values_at 4)) (worth_in 4 (SymbolValue (nest (60 * 4))))))

-- an instance of the sixth line is this one
sixth_values : (values : List Value) → length values ≡ length (globals (step 4)) → value_of (bound_in (step 4) values) v ≡ IsSymbol (nest (60 * 4)) → values ≡ values_at 4
sixth_values values each e =
    let x = one_value values (each ∙ ap length (step_globals 4)) in
    let w = subst (λ vs. value_of (bound_in (step 4) vs) v ≡ IsSymbol (nest (60 * 4))) x.1 e in
    x.1 ∙ ap (λ z. z ∷ []) (same_worth x.0 (SymbolValue (nest (60 * 4))) (sym (worth_in 4 x.0) ∙ w))

tower_outside : (ends : Ends) → IsFirstOutside tower ends (key 5 (values_at 4)) Overflow
tower_outside ends = record {
  outside = (step 4, record { relevant = relevant_at 4 (omega arith); has = RuleOver sixth_over; first = λ other m. absurd m });
  before = λ other o. at other o (at_place o.0 other.place o.1.place);
}
  where
    it : (other : Key) (i : ℕ) → i ≤ 4 → other.place ≡ suc i → IsRelevantOf tower other (step i) → is_rule_over (step i) other.values ≡ true → other ≡ key 5 (values_at 4)
    it other i l place relevant over = go (last_or_before i l)
      where
        worth : value_of (bound_in (step i) other.values) v ≡ IsSymbol (nest (60 * i))
        worth =
            let first = relevant.positive.0 in
            reads (bound_in (step i) other.values) i first.0 first.1 (possible_only first.0 first.2)

        go : (i ≤ 3) ⊎ (i ≡ 4) → other ≡ key 5 (values_at 4)
        go (inl m) = absurd (true≢false (sym over ∙ step_inside i m other.values worth))
        go (inr f) =
            let values = sixth_values other.values (subst (λ j. length other.values ≡ length (globals (step j))) f relevant.stands.each)
            (subst (λ j. value_of (bound_in (step j) other.values) v ≡ IsSymbol (nest (60 * j))) f worth) in
            let placed = place ∙ ap suc f in
            λ k. record { place = placed k; values = values k }

    at : (other : Key) (o : IsSomehowOutside tower ends other) → AtPlace other.place o.0 → (other ≡ key 5 (values_at 4)) ⊎ (key_cmp (key 5 (values_at 4)) other ≡ Less)
    at other o (inl e) =
        let has = subst (λ c. HasCause (IsPossible tower) ends c other.values o.2.0) e o.2.1 in
        absurd (true≢false (sym (only_over (IsPossible tower) ends fact other.values no_theory no_choice o.2.0 has) ∙ fact_inside other.values))
    at other o (inr (i, l, place, e)) =
        let has = subst (λ c. HasCause (IsPossible tower) ends c other.values o.2.0) e o.2.1 in
        inl (it other i l place (subst (IsRelevantOf tower other) e o.1) (only_over (IsPossible tower) ends (step i) other.values no_theory no_choice o.2.0 has))
