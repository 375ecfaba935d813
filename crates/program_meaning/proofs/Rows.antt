-- The definitions on small programs.
use Rattle.std.proofs.Common.{◌≡◌, inl, inr, ℕ, zero, suc, Bool, true, false, ◌&&◌, ◌||◌, pos, int_le, List, [], ◌∷◌, ◌++◌, length, None, Some, slice_get, refl, sym, ◌∙◌, ap, subst, true≢false, codes}
use Rattle.std.specs.List.{list_all, list_any}
use Rattle.symbols.specs.declared.ends.Ends.{Ends}
use Rattle.symbols.specs.declared.rel.Rel.TheVariants as r
use Rattle.symbols.specs.Symbol.{Symbol, Number, Function, arguments}
use Rattle.syntax_tree.specs.declared.literal.Guard.{Guard}
use Rattle.syntax_tree.specs.declared.term.Term.{Term}
use Rattle.syntax_tree.specs.declared.term.Term.TheVariants as t
use Rattle.syntax_tree.specs.Arithmetic.{fitted}
use Rattle.syntax_tree.specs.Outcome.{Outcome, IsSymbol}
use Rattle.syntax_tree.specs.Value.{value_of}
use Rattle.ground_model.specs.Members.{IsMember}
use Rattle.program_meaning.specs.Read.{PlainLiteral, PlainAtom, PlainCompare, ReadLiteral, ReadPlain, ReadChoice, ReadHead, ReadAtom, ReadChoose, ReadRule, plains}
use Rattle.program_meaning.specs.Substitution.{Value, SymbolValue, Key, worth_of, substituted}
use Rattle.program_meaning.specs.Instance.{bound_in, bound_in_choice, is_bound, plain_stands, literal_stands, IsInstance, IsChoiceInstance, IsPossible, IsRelevantOf}
use Rattle.program_meaning.specs.Theory.{is_defined, is_over}
use Rattle.program_meaning.specs.Outside.{literal_over, head_over, Overflow, RuleOver, IsOutside, IsFirstOutside}
use Rattle.program_meaning.proofs.Examples.{forms, plus, minus, n, v, p, huge, nothing, huge_atom, nothing_undefined}
use Rattle.ground_model.proofs.Bools.{and_elim, and_intro}
use Rattle.program_meaning.specs.Comparison.{IsTruth, comparison, against, compared, may_hold}
use Rattle.program_meaning.specs.Variables.{is_free, globals, choice_locals}
use Rattle.program_meaning.specs.Ground.{BoundAs}
use Rattle.program_meaning.specs.Count.{CountedRule, IsCounted}
use Rattle.program_meaning.proofs.Layers
use Rattle.program_meaning.proofs.Matching.{AreThese, nested_symbol}
use Rattle.program_meaning.proofs.Possible.{ClosedUnder, closed_at}

-- ---- words

abbrev pub rule : ReadHead → List ReadLiteral → List ℕ → ReadRule
rule head body order = record { head = head; body = body; order = order }

abbrev pub key : ℕ → List Value → Key
key place values = record { place = place; values = values }

abbrev pub number : ℕ → Value
number k = SymbolValue (Number (pos k))

-- the atom of a name with one number
abbrev pub atom : List ℕ → ℕ → Symbol
atom name k = Function name (arguments (Number (pos k) ∷ []))

one_place : (a b : ReadRule) (place : ℕ) → slice_get (a ∷ []) place ≡ Some b → (place ≡ 0) × (b ≡ a)
one_place a b zero e = (refl, cc)
one_place a b (suc place) e = cc

no_values : (values : List Value) → length values ≡ 0 → values ≡ []
no_values [] e = refl
no_values (value ∷ values) e = cc

-- ---- p(2147483647+1). is outside by Overflow

abbrev huge_rule : ReadRule
huge_rule = rule (ReadAtom (p huge)) [] []

huge_relevant : IsRelevantOf (huge_rule ∷ []) (key 0 []) huge_rule
huge_relevant = record {
  place = refl;
  stands = record { each = refl; head = ap is_defined (huge_atom []); body = refl };
  positive = tt;
}

huge_outside : (ends : Ends) → IsFirstOutside (huge_rule ∷ []) ends (key 0 []) Overflow
huge_outside ends = record {
  outside = (huge_rule, record { relevant = huge_relevant; has = RuleOver (ap (λ o. is_over o || false) (huge_atom [])); first = λ other m. absurd m });
  before = λ other o.
      let place = one_place huge_rule o.0 other.place o.1.place in
      let values = no_values other.values (subst (λ q. length other.values ≡ length (globals q)) place.1 o.1.stands.each) in
      inl (λ i. record { place = place.0 i; values = values i });
}

-- ---- p(1/0). has no instance

abbrev nothing_rule : ReadRule
nothing_rule = rule (ReadAtom (p nothing)) [] []

nothing_stands : (values : List Value) → IsInstance nothing_rule values → ⊥
nothing_stands values i = true≢false (sym (sym (ap is_defined (nothing_undefined (bound_in nothing_rule values))) ∙ i.head))

-- ---- p(0). q :- p(X), X > 0, 2147483647+X > 1. gives p(0) alone

abbrev q_term : Term
q_term = t.Function (codes "q") []

abbrev zero_fact : ReadRule
zero_fact = rule (ReadAtom (p (n 0))) [] []

abbrev zero_body : List ReadLiteral
zero_body = ReadPlain (PlainAtom (p v) true) ∷ ReadPlain (PlainCompare v r.Greater (n 0)) ∷ ReadPlain (PlainCompare (plus (n 2147483647) v) r.Greater (n 1)) ∷ []

abbrev zero_rule : ReadRule
zero_rule = rule (ReadAtom q_term) zero_body (1 ∷ [])

abbrev zero_program : List ReadRule
zero_program = zero_fact ∷ zero_rule ∷ []

-- what X is worth where p(X) is p(0)
zero_worth : (bound : List Outcome) → value_of bound (p v) ≡ IsSymbol (atom (codes "p") 0) → value_of bound v ≡ IsSymbol (Number (pos 0))
zero_worth bound e =
    let args = nested_symbol (codes "p") (value_of bound v ∷ []) (atom (codes "p") 0) (sym (Layers.value_of-Function bound (codes "p") (v ∷ [])) ∙ e) in
    one args.0 args.1 args.2
  where
    first : (a b : Symbol) → Function (codes "p") (arguments (a ∷ [])) ≡ Function (codes "p") (arguments (b ∷ [])) → a ≡ b
    first a b e = cc

    one : (symbols : List Symbol) → AreThese (value_of bound v ∷ []) symbols → atom (codes "p") 0 ≡ Function (codes "p") (arguments symbols)
        → value_of bound v ≡ IsSymbol (Number (pos 0))
    one [] these same = absurd these
    one (s ∷ []) these same = these.0 ∙ ap IsSymbol (sym (first (Number (pos 0)) s same))
    one (s ∷ other ∷ more) these same = absurd these.1

-- X > 0 fails where X is 0
zero_fails : (literals : List PlainLiteral) (bound : List Outcome) → value_of bound v ≡ IsSymbol (Number (pos 0)) → may_hold (comparison literals bound v r.Greater (n 0)) ≡ false
zero_fails literals bound e =
    ap (λ pair. may_hold (against (is_free literals v || is_free literals (n 0)) bound v r.Greater (n 0) pair)) (Layers.ends-Number (pos 0))
    ∙ ap (λ o. may_hold (compared (is_free literals v || is_free literals (n 0)) r.Greater o (value_of bound (n 0)))) e
    ∙ ap (λ o. may_hold (compared (is_free literals v || is_free literals (n 0)) r.Greater (IsSymbol (Number (pos 0))) o)) (Layers.value_of-Number bound (pos 0))

abbrev IsZero : Symbol → Type 0
IsZero a = a ≡ atom (codes "p") 0

fact_closed : ClosedUnder zero_program IsZero zero_fact
fact_closed values stands positive a g = same a (atom (codes "p") 0) (sym g ∙ is_fact (bound_in zero_fact values))
  where
    same : (b c : Symbol) → IsSymbol b ≡ IsSymbol c → b ≡ c
    same b c e = cc

    is_fact : (bound : List Outcome) → value_of bound (p (n 0)) ≡ IsSymbol (atom (codes "p") 0)
    is_fact bound = simp forms

rule_closed : ClosedUnder zero_program IsZero zero_rule
rule_closed values stands positive a g =
    let test : ReadLiteral → Bool = literal_stands (plains zero_body) (bound_in zero_rule values) in
    let worth = zero_worth (bound_in zero_rule values) (positive.0.1 ∙ ap IsSymbol positive.0.2) in
    let rest = and_elim (test (ReadPlain (PlainAtom (p v) true))) _ stands.body in
    let holds = and_elim (test (ReadPlain (PlainCompare v r.Greater (n 0)))) _ rest.1 in
    absurd (true≢false (sym holds.0 ∙ zero_fails (plains zero_body) (bound_in zero_rule values) worth))

zero_closed : (rule : ReadRule) → IsMember zero_program rule → ClosedUnder zero_program IsZero rule
zero_closed rule (inl e) = subst (ClosedUnder zero_program IsZero) (sym e) fact_closed
zero_closed rule (inr (inl e)) = subst (ClosedUnder zero_program IsZero) (sym e) rule_closed
zero_closed rule (inr (inr m)) = absurd m

zero_alone : (a : Symbol) → IsPossible zero_program a → IsZero a
zero_alone a possible = closed_at zero_program IsZero zero_closed possible.0 a possible.1

zero_possible : IsPossible zero_program (atom (codes "p") 0)
zero_possible = (1, (zero_fact, inl refl, [], record { each = refl; head = ap is_defined (is_fact []); body = refl }, is_fact [], tt))
  where
    is_fact : (bound : List Outcome) → value_of bound (p (n 0)) ≡ IsSymbol (atom (codes "p") 0)
    is_fact bound = simp forms

-- ---- p(2147483647). q(1..3). r :- p(Y), q(V), V = Y+1. has three instances of its third rule, each outside by Overflow

abbrev pub w : Term
w = t.Variable 2

abbrev pub q : Term → Term
q term = t.Function (codes "q") (term ∷ [])

abbrev pub big_fact : ReadRule
big_fact = rule (ReadAtom (p (n 2147483647))) [] []

abbrev pub few_rule : ReadRule
few_rule = rule (ReadAtom (q v)) (ReadPlain (PlainCompare v r.Equal (t.Interval (n 1) (n 3))) ∷ []) (1 ∷ [])

abbrev sum_body : List ReadLiteral
sum_body = ReadPlain (PlainAtom (p v) true) ∷ ReadPlain (PlainAtom (q w) true) ∷ ReadPlain (PlainCompare w r.Equal (plus v (n 1))) ∷ []

abbrev pub sum_rule : ReadRule
sum_rule = rule (ReadAtom (t.Function (codes "r") [])) sum_body (1 ∷ 2 ∷ [])

abbrev pub sum_program : List ReadRule
sum_program = big_fact ∷ few_rule ∷ sum_rule ∷ []

pub big_value : (bound : List Outcome) → value_of bound (p (n 2147483647)) ≡ IsSymbol (atom (codes "p") 2147483647)
big_value bound = simp forms

big_possible : IsPossible sum_program (atom (codes "p") 2147483647)
big_possible = (1, (big_fact, inl refl, [], record { each = refl; head = ap is_defined (big_value []); body = refl }, big_value [], tt))

pub ruleset places = (
  Layers.occurs-Number,
  Layers.occurs-Variable,
  Layers.occurs-Function,
  Layers.occurs-Sum,
  Layers.occurs-Interval,
  Layers.occurs-Part,
)

pub few_globals : globals few_rule ≡ 1 ∷ []
few_globals = simp places

pub few_bound : (x : Value) → bound_in few_rule (x ∷ []) ≡ worth_of x ∷ []
few_bound x = ap (λ gs. substituted 1 gs (x ∷ [])) few_globals

pub sum_globals : globals sum_rule ≡ 1 ∷ 2 ∷ []
sum_globals = simp places

-- ---- its instances: q(1), q(2) and q(3) are possible, and each gives one, in which V = Y+1 is over

abbrev is_few : ℕ → Bool
is_few k = int_le (pos 1) (pos k) && int_le (pos k) (pos 3)

pub few_value : (k : ℕ) → value_of (bound_in few_rule (number k ∷ [])) (q v) ≡ IsSymbol (atom (codes "q") k)
few_value k = ap (λ b. value_of b (q v)) (few_bound (number k)) ∙ at k
  where
    at : (k : ℕ) → value_of (IsSymbol (Number (pos k)) ∷ []) (q v) ≡ IsSymbol (atom (codes "q") k)
    at k = simp forms

few_stands : (k : ℕ) → is_few k ≡ true → IsInstance few_rule (number k ∷ [])
few_stands k h = record {
  each = sym (ap length few_globals);
  head = ap is_defined (few_value k);
  body = ap (λ b. list_all (literal_stands (plains few_rule.body) b) few_rule.body) (few_bound (number k)) ∙ ap (λ c. may_hold c && true) (within k) ∙ and_intro (is_few k) true h refl;
}
  where
    within : (k : ℕ) → comparison (plains few_rule.body) (IsSymbol (Number (pos k)) ∷ []) v r.Equal (t.Interval (n 1) (n 3)) ≡ IsTruth (is_few k)
    within k = simp forms

few_possible : (k : ℕ) → is_few k ≡ true → IsPossible sum_program (atom (codes "q") k)
few_possible k h = (1, (few_rule, inr (inl refl), number k ∷ [], few_stands k h, few_value k, (tt, tt)))

abbrev pub sum_values : ℕ → List Value
sum_values k = number 2147483647 ∷ number k ∷ []

abbrev sum_worths : ℕ → List Outcome
sum_worths k = IsSymbol (Number (pos 2147483647)) ∷ IsSymbol (Number (pos k)) ∷ []

sum_bound : (k : ℕ) → bound_in sum_rule (sum_values k) ≡ sum_worths k
sum_bound k = ap (λ gs. substituted 2 gs (sum_values k)) sum_globals

sum_stands : (k : ℕ) → IsInstance sum_rule (sum_values k)
unfolding fitted
sum_stands k = record {
  each = sym (ap length sum_globals);
  head = ap is_defined (Layers.value_of-Function (bound_in sum_rule (sum_values k)) (codes "r") []);
  body = ap (λ b. list_all (literal_stands (plains sum_body) b) sum_body) (sum_bound k) ∙ all k;
}
  where
    all : (k : ℕ) → list_all (literal_stands (plains sum_body) (sum_worths k)) sum_body ≡ true
    all k = simp forms

pub sum_relevant : (k : ℕ) → is_few k ≡ true → IsRelevantOf sum_program (key 2 (sum_values k)) sum_rule
sum_relevant k h = record {
  place = refl;
  stands = sum_stands k;
  positive = (
    (atom (codes "p") 2147483647, ap (λ b. value_of b (p v)) (sum_bound k) ∙ first k, big_possible),
    ((atom (codes "q") k, ap (λ b. value_of b (q w)) (sum_bound k) ∙ second k, few_possible k h), (tt, tt)),
  );
}
  where
    first : (k : ℕ) → value_of (sum_worths k) (p v) ≡ IsSymbol (atom (codes "p") 2147483647)
    first k = simp forms

    second : (k : ℕ) → value_of (sum_worths k) (q w) ≡ IsSymbol (atom (codes "q") k)
    second k = simp forms

pub sum_outside : (ends : Ends) (k : ℕ) → is_few k ≡ true → IsOutside sum_program ends (key 2 (sum_values k)) Overflow
unfolding fitted
sum_outside ends k h = (
  sum_rule,
  record {
    relevant = sum_relevant k h;
    has = RuleOver (ap (λ b. head_over b sum_rule.head || list_any (literal_over (plains sum_body) b) sum_body) (sum_bound k) ∙ some k);
    first = λ other m. absurd m;
  },
)
  where
    some : (k : ℕ) → (head_over (sum_worths k) sum_rule.head || list_any (literal_over (plains sum_body) (sum_worths k)) sum_body) ≡ true
    some k = simp forms

three_counted : IsCounted sum_program (CountedRule (key 2 (sum_values 1))) × IsCounted sum_program (CountedRule (key 2 (sum_values 2)))
    × IsCounted sum_program (CountedRule (key 2 (sum_values 3)))
three_counted = ((sum_rule, sum_relevant 1 refl), (sum_rule, sum_relevant 2 refl), (sum_rule, sum_relevant 3 refl))

-- ---- {p(1..2)} = 2-1. lets p(1) and p(2) be chosen, and its bound is 1

abbrev chosen : ReadChoice
chosen = record { atom = p v; condition = PlainCompare v r.Equal (t.Interval (n 1) (n 2)) ∷ [] }

abbrev one_guard : Guard
one_guard = record { rel = r.Equal; right = minus (n 2) (n 1) }

abbrev choice_rule : ReadRule
choice_rule = rule (ReadChoose None (chosen ∷ []) (Some one_guard)) [] (1 ∷ [])

choice_globals : globals choice_rule ≡ []
choice_globals = simp places

choice_variables : choice_locals choice_rule chosen ≡ 1 ∷ []
choice_variables = simp places

one_bound : BoundAs (λ rel. rel) (bound_in choice_rule []) (Some one_guard) (Some (record { rel = r.Equal; value = pos 1 }))
unfolding fitted
one_bound = (pos 1, value (bound_in choice_rule []), refl)
  where
    value : (bound : List Outcome) → value_of bound (minus (n 2) (n 1)) ≡ IsSymbol (Number (pos 1))
    value bound = simp forms

chosen_bound : (k : ℕ) → bound_in_choice choice_rule [] chosen (number k ∷ []) ≡ IsSymbol (Number (pos k)) ∷ []
chosen_bound k = λ i. substituted 1 (choice_globals i ++ choice_variables i) (number k ∷ [])

abbrev is_two : ℕ → Bool
is_two k = int_le (pos 1) (pos k) && int_le (pos k) (pos 2)

chosen_value : (k : ℕ) → value_of (bound_in_choice choice_rule [] chosen (number k ∷ [])) (p v) ≡ IsSymbol (atom (codes "p") k)
chosen_value k = ap (λ b. value_of b (p v)) (chosen_bound k) ∙ at k
  where
    at : (k : ℕ) → value_of (IsSymbol (Number (pos k)) ∷ []) (p v) ≡ IsSymbol (atom (codes "p") k)
    at k = simp forms

chosen_possible : (k : ℕ) → is_two k ≡ true → IsPossible (choice_rule ∷ []) (atom (codes "p") k)
chosen_possible k h = (
  1,
  (
    choice_rule,
    inl refl,
    [],
    record { each = sym (ap length choice_globals); head = ap (λ o. true && is_bound o) (one_bound.1); body = refl },
    (chosen, inl refl, number k ∷ [], stands, chosen_value k, (tt, tt)),
    tt,
  ),
)
  where
    within : (k : ℕ) → comparison chosen.condition (IsSymbol (Number (pos k)) ∷ []) v r.Equal (t.Interval (n 1) (n 2)) ≡ IsTruth (is_two k)
    within k = simp forms

    stands : IsChoiceInstance choice_rule [] chosen (number k ∷ [])
    stands = record {
      each = sym (ap length choice_variables);
      atom = ap is_defined (chosen_value k);
      condition = ap (λ b. list_all (plain_stands chosen.condition b) chosen.condition) (chosen_bound k) ∙ ap (λ c. may_hold c && true) (within k) ∙ and_intro (is_two k) true h refl;
    }
