-- The canonical ground program of q(X) :- p(X), not r(X). p(1..2). #show q/1.
use Rattle.std.proofs.Common.{◌≡◌, ◌⊎◌, inl, inr, ℕ, zero, suc, true, false, ◌&&◌, pos, List, [], ◌∷◌, ◌++◌, map, length, Some, slice_get, refl, sym, ◌∙◌, ap, subst, true≢false, codes}
use Rattle.std.specs.List.{list_all, flat_map}
use Rattle.symbols.specs.declared.rel.Rel.TheVariants as r
use Rattle.symbols.specs.Symbol.{Symbol, Number, Function, arguments}
use Rattle.syntax_tree.specs.declared.term.Term.{Term}
use Rattle.syntax_tree.specs.declared.term.Term.TheVariants as t
use Rattle.syntax_tree.specs.Outcome.{Outcome, IsSymbol}
use Rattle.syntax_tree.specs.Value.{named, value_of}
use Rattle.ground_model.specs.Members.{IsMember}
use Rattle.ground_model.specs.Rule.{AtomLit, GivesHead, RuleOf}
use Rattle.ground_model.proofs.Bools.{and_elim}
use Rattle.program_meaning.specs.Read.{PlainAtom, PlainCompare, ReadTheory, ReadPlain, ReadAtom, ReadDuty, ReadRule, ReadShow, ShowsPredicate, plains}
use Rattle.program_meaning.specs.Variables.{globals}
use Rattle.program_meaning.specs.Substitution.{Value, Key, worth_of, substituted}
use Rattle.program_meaning.specs.Comparison.{IsSpan, contained, comparison, may_hold}
use Rattle.program_meaning.specs.Theory.{is_defined}
use Rattle.program_meaning.specs.Instance.{bound_in, literal_stands, IsInstance, PossibleAt, IsPossible, IsRelevantOf}
use Rattle.program_meaning.specs.Tuples.{theories}
use Rattle.program_meaning.specs.Ground.{atom_as, plain_as, GivesRule, IsInstanceAs}
use Rattle.program_meaning.specs.Canonical.{is_of_predicate, GroundView, IsCanonical}
use Rattle.program_meaning.specs.Search.{values_in}
use Rattle.program_meaning.proofs.Binding.{same_worth}
use Rattle.program_meaning.proofs.Examples.{forms, n, v, p}
use Rattle.program_meaning.proofs.Layers
use Rattle.program_meaning.proofs.Matching.{AreThese, nested_symbol}
use Rattle.program_meaning.proofs.Possible.{ClosedUnder, closed_at}
use Rattle.program_meaning.proofs.Rows.{places, rule, key, number, atom, q}
use Rattle.program_meaning.proofs.Values.{IsOne, in_span}

abbrev r_term : Term → Term
r_term term = t.Function (codes "r") (term ∷ [])

abbrev q_rule : ReadRule
q_rule = rule (ReadAtom (q v)) (ReadPlain (PlainAtom (p v) true) ∷ ReadPlain (PlainAtom (r_term v) false) ∷ []) (1 ∷ [])

abbrev p_rule : ReadRule
p_rule = rule (ReadAtom (p v)) (ReadPlain (PlainCompare v r.Equal (t.Interval (n 1) (n 2))) ∷ []) (1 ∷ [])

abbrev rules : List ReadRule
rules = q_rule ∷ p_rule ∷ []

abbrev p_at : ℕ → Symbol
p_at k = atom (codes "p") k

abbrev q_at : ℕ → Symbol
q_at k = atom (codes "q") k

abbrev r_at : ℕ → Symbol
r_at k = atom (codes "r") k

abbrev atoms : List Symbol
atoms = p_at 1 ∷ p_at 2 ∷ q_at 1 ∷ q_at 2 ∷ []

-- ---- substitutions

q_globals : globals q_rule ≡ 1 ∷ []
q_globals = simp places

p_globals : globals p_rule ≡ 1 ∷ []
p_globals = simp places

q_bound : (x : Value) → bound_in q_rule (x ∷ []) ≡ worth_of x ∷ []
q_bound x = ap (λ gs. substituted 1 gs (x ∷ [])) q_globals

p_bound : (x : Value) → bound_in p_rule (x ∷ []) ≡ worth_of x ∷ []
p_bound x = ap (λ gs. substituted 1 gs (x ∷ [])) p_globals

single : (values : List Value) → length values ≡ 1 → (x : Value) × (values ≡ x ∷ [])
single [] e = cc
single (x ∷ []) e = (x, refl)
single (x ∷ y ∷ rest) e = cc

-- a number under a name
applied_number : (name : List ℕ) (bound : List Outcome) (k : ℕ) → value_of bound v ≡ IsSymbol (Number (pos k))
    → value_of bound (t.Function name (v ∷ [])) ≡ IsSymbol (atom name k)
applied_number name bound k e = Layers.value_of-Function bound name (v ∷ []) ∙ ap (λ o. named name (o ∷ [])) e

at_variable : (x : Value) → value_of (worth_of x ∷ []) v ≡ worth_of x
at_variable x = Layers.value_of-Variable (worth_of x ∷ []) 1

of_number : (name : List ℕ) (k : ℕ) → value_of (worth_of (number k) ∷ []) (t.Function name (v ∷ [])) ≡ IsSymbol (atom name k)
of_number name k = applied_number name (worth_of (number k) ∷ []) k (at_variable (number k))

q_value : (name : List ℕ) (k : ℕ) → value_of (bound_in q_rule (number k ∷ [])) (t.Function name (v ∷ [])) ≡ IsSymbol (atom name k)
q_value name k = ap (λ b. value_of b (t.Function name (v ∷ []))) (q_bound (number k)) ∙ of_number name k

p_value : (k : ℕ) → value_of (bound_in p_rule (number k ∷ [])) (p v) ≡ IsSymbol (p_at k)
p_value k = ap (λ b. value_of b (p v)) (p_bound (number k)) ∙ of_number (codes "p") k

-- ---- which substitutions there are

abbrev OneOrTwo : List Value → Type 0
OneOrTwo values = (values ≡ number 1 ∷ []) ⊎ (values ≡ number 2 ∷ [])

p_values : (values : List Value) → IsInstance p_rule values → OneOrTwo values
p_values values stands =
    let x = single values (stands.each ∙ ap length p_globals) in
    let body = subst (λ vs. list_all (literal_stands (plains p_rule.body) (bound_in p_rule vs)) p_rule.body ≡ true) x.1 stands.body in
    let at = subst (λ b. list_all (literal_stands (plains p_rule.body) b) p_rule.body ≡ true) (p_bound x.0) body in
    let holds = (and_elim (may_hold (comparison (plains p_rule.body) (worth_of x.0 ∷ []) v r.Equal (t.Interval (n 1) (n 2)))) true at).0 in
    go x.0 x.1 ((in_span (worth_of x.0) (IsSpan (pos 1) (pos 2))).0 (sym (ap may_hold (within x.0)) ∙ holds))
  where
    within : (x : Value) → comparison (plains p_rule.body) (worth_of x ∷ []) v r.Equal (t.Interval (n 1) (n 2)) ≡ contained true (worth_of x) (IsSpan (pos 1) (pos 2))
    within x = simp forms

    go : (x : Value) → values ≡ x ∷ [] → IsOne (values_in (IsSpan (pos 1) (pos 2))) (worth_of x) → OneOrTwo values
    go x e (val, inl m, w) = inl (e ∙ ap (λ y. y ∷ []) (same_worth x val w ∙ m))
    go x e (val, inr (inl m), w) = inr (e ∙ ap (λ y. y ∷ []) (same_worth x val w ∙ m))
    go x e (val, inr (inr m), w) = absurd m

-- where p(X) is p(k), X is k
argument : (bound : List Outcome) (k : ℕ) → value_of bound (p v) ≡ IsSymbol (p_at k) → value_of bound v ≡ IsSymbol (Number (pos k))
argument bound k e =
    let args = nested_symbol (codes "p") (value_of bound v ∷ []) (p_at k) (sym (Layers.value_of-Function bound (codes "p") (v ∷ [])) ∙ e) in
    one args.0 args.1 args.2
  where
    first : (a b : Symbol) → Function (codes "p") (arguments (a ∷ [])) ≡ Function (codes "p") (arguments (b ∷ [])) → a ≡ b
    first a b e = cc

    one : (symbols : List Symbol) → AreThese (value_of bound v ∷ []) symbols → p_at k ≡ Function (codes "p") (arguments symbols)
        → value_of bound v ≡ IsSymbol (Number (pos k))
    one [] these same = absurd these
    one (s ∷ []) these same = these.0 ∙ ap IsSymbol (sym (first (Number (pos k)) s same))
    one (s ∷ other ∷ more) these same = absurd these.1

-- p(X) is no q
no_q : (bound : List Outcome) (k : ℕ) → value_of bound (p v) ≡ IsSymbol (q_at k) → ⊥
no_q bound k e =
    let args = nested_symbol (codes "p") (value_of bound v ∷ []) (q_at k) (sym (Layers.value_of-Function bound (codes "p") (v ∷ [])) ∙ e) in
    one args.0 args.1 args.2
  where
    one : (symbols : List Symbol) → AreThese (value_of bound v ∷ []) symbols → q_at k ≡ Function (codes "p") (arguments symbols) → ⊥
    one [] these same = absurd these
    one (s ∷ []) these same = true≢false (sym (ap (is_of_predicate (codes "p") 1) same))
    one (s ∷ other ∷ more) these same = absurd these.1

-- where p(X) is one of the atoms, X is 1 or 2
q_values : (values : List Value) → IsInstance q_rule values → (a : Symbol) → value_of (bound_in q_rule values) (p v) ≡ IsSymbol a → IsMember atoms a → OneOrTwo values
q_values values stands a e m =
    let x = single values (stands.each ∙ ap length q_globals) in
    let at = subst (λ vs. value_of (bound_in q_rule vs) (p v) ≡ IsSymbol a) x.1 e in
    go x.0 x.1 (subst (λ b. value_of b (p v) ≡ IsSymbol a) (q_bound x.0) at) m
  where
    found : (x : Value) (k : ℕ) → value_of (worth_of x ∷ []) (p v) ≡ IsSymbol (p_at k) → x ≡ number k
    found x k e = same_worth x (number k) (sym (at_variable x) ∙ argument (worth_of x ∷ []) k e)

    go : (x : Value) → values ≡ x ∷ [] → value_of (worth_of x ∷ []) (p v) ≡ IsSymbol a → IsMember atoms a → OneOrTwo values
    go x s e (inl m) = inl (s ∙ ap (λ y. y ∷ []) (found x 1 (e ∙ ap IsSymbol m)))
    go x s e (inr (inl m)) = inr (s ∙ ap (λ y. y ∷ []) (found x 2 (e ∙ ap IsSymbol m)))
    go x s e (inr (inr (inl m))) = absurd (no_q (worth_of x ∷ []) 1 (e ∙ ap IsSymbol m))
    go x s e (inr (inr (inr (inl m)))) = absurd (no_q (worth_of x ∷ []) 2 (e ∙ ap IsSymbol m))
    go x s e (inr (inr (inr (inr m)))) = absurd m

-- ---- possible atoms

p_stands : (k : ℕ) → may_hold (contained true (worth_of (number k)) (IsSpan (pos 1) (pos 2))) ≡ true → IsInstance p_rule (number k ∷ [])
p_stands k h = record {
  each = sym (ap length p_globals);
  head = ap is_defined (p_value k);
  body = ap (λ b. list_all (literal_stands (plains p_rule.body) b) p_rule.body) (p_bound (number k)) ∙ ap (λ c. may_hold c && true) (within k) ∙ ap (λ t. t && true) h;
}
  where
    within : (k : ℕ) → comparison (plains p_rule.body) (worth_of (number k) ∷ []) v r.Equal (t.Interval (n 1) (n 2)) ≡ contained true (worth_of (number k)) (IsSpan (pos 1) (pos 2))
    within k = simp forms

p_possible : (k : ℕ) → IsInstance p_rule (number k ∷ []) → PossibleAt rules 1 (p_at k)
p_possible k stands = (p_rule, inr (inl refl), number k ∷ [], stands, p_value k, (tt, tt))

q_stands : (k : ℕ) → IsInstance q_rule (number k ∷ [])
q_stands k = record {
  each = sym (ap length q_globals);
  head = ap is_defined (q_value (codes "q") k);
  body = λ i. is_defined (q_value (codes "p") k i) && (is_defined (q_value (codes "r") k i) && true);
}

q_possible : (k : ℕ) → IsInstance p_rule (number k ∷ []) → PossibleAt rules 2 (q_at k)
q_possible k stands = (
  q_rule,
  inl refl,
  number k ∷ [],
  q_stands k,
  q_value (codes "q") k,
  ((p_at k, q_value (codes "p") k, p_possible k stands), (tt, tt)),
)

one : IsInstance p_rule (number 1 ∷ [])
one = p_stands 1 refl

two : IsInstance p_rule (number 2 ∷ [])
two = p_stands 2 refl

same_symbol : (b c : Symbol) → IsSymbol b ≡ IsSymbol c → b ≡ c
same_symbol b c e = cc

only_possible : (a : Symbol) → IsPossible rules a → IsMember atoms a
only_possible a possible = closed_at rules (IsMember atoms) closed possible.0 a possible.1
  where
    q_closed : ClosedUnder rules (IsMember atoms) q_rule
    q_closed values stands positive b g = go (q_values values stands positive.0.0 positive.0.1 positive.0.2)
      where
        go : OneOrTwo values → IsMember atoms b
        go (inl e) = inr (inr (inl (same_symbol b (q_at 1) (sym g ∙ ap (λ vs. value_of (bound_in q_rule vs) (q v)) e ∙ q_value (codes "q") 1))))
        go (inr e) = inr (inr (inr (inl (same_symbol b (q_at 2) (sym g ∙ ap (λ vs. value_of (bound_in q_rule vs) (q v)) e ∙ q_value (codes "q") 2)))))

    p_closed : ClosedUnder rules (IsMember atoms) p_rule
    p_closed values stands positive b g = go (p_values values stands)
      where
        go : OneOrTwo values → IsMember atoms b
        go (inl e) = inl (same_symbol b (p_at 1) (sym g ∙ ap (λ vs. value_of (bound_in p_rule vs) (p v)) e ∙ p_value 1))
        go (inr e) = inr (inl (same_symbol b (p_at 2) (sym g ∙ ap (λ vs. value_of (bound_in p_rule vs) (p v)) e ∙ p_value 2)))

    closed : (rule : ReadRule) → IsMember rules rule → ClosedUnder rules (IsMember atoms) rule
    closed rule (inl e) = subst (ClosedUnder rules (IsMember atoms)) (sym e) q_closed
    closed rule (inr (inl e)) = subst (ClosedUnder rules (IsMember atoms)) (sym e) p_closed
    closed rule (inr (inr m)) = absurd m

all_possible : (a : Symbol) → IsMember atoms a → IsPossible rules a
all_possible a (inl e) = subst (IsPossible rules) (sym e) (1, p_possible 1 one)
all_possible a (inr (inl e)) = subst (IsPossible rules) (sym e) (1, p_possible 2 two)
all_possible a (inr (inr (inl e))) = subst (IsPossible rules) (sym e) (2, q_possible 1 one)
all_possible a (inr (inr (inr (inl e)))) = subst (IsPossible rules) (sym e) (2, q_possible 2 two)
all_possible a (inr (inr (inr (inr m)))) = absurd m

-- ---- relevant instances

q_relevant : (k : ℕ) → IsInstance p_rule (number k ∷ []) → IsRelevantOf rules (key 0 (number k ∷ [])) q_rule
q_relevant k stands = record {
  place = refl;
  stands = q_stands k;
  positive = ((p_at k, q_value (codes "p") k, (1, p_possible k stands)), (tt, tt));
}

p_relevant : (k : ℕ) → IsInstance p_rule (number k ∷ []) → IsRelevantOf rules (key 1 (number k ∷ [])) p_rule
p_relevant k stands = record { place = refl; stands = stands; positive = (tt, tt) }

q_ground : ℕ → RuleOf Symbol Symbol
q_ground k = record { body = AtomLit (p_at k) true ∷ AtomLit (r_at k) false ∷ []; head = GivesHead (q_at k) }

p_ground : ℕ → RuleOf Symbol Symbol
p_ground k = record { body = []; head = GivesHead (p_at k) }

q_literals : (k : ℕ) → flat_map (plain_as (bound_in q_rule (number k ∷ []))) (plains q_rule.body) ≡ AtomLit (p_at k) true ∷ AtomLit (r_at k) false ∷ []
q_literals k = λ i. atom_as (q_value (codes "p") k i) true ++ (atom_as (q_value (codes "r") k i) false ++ [])

q_instance : (k : ℕ) → IsInstance p_rule (number k ∷ []) → IsInstanceAs rules (key 0 (number k ∷ [])) (q_ground k)
unfolding q_ground
q_instance k stands = (
  q_rule,
  q_relevant k stands,
  record {
    atoms = AtomLit (p_at k) true ∷ AtomLit (r_at k) false ∷ [];
    told = [];
    are_atoms = record {
      ascend = ((refl, tt), (tt, tt));
      all = λ lit. (λ m. subst (λ lits. IsMember lits lit) (sym (q_literals k)) m, λ m. subst (λ lits. IsMember lits lit) (q_literals k) m);
    };
    are_told = refl;
    whole = refl;
  },
  (q_at k, q_value (codes "q") k, refl),
)

p_instance : (k : ℕ) → IsInstance p_rule (number k ∷ []) → IsInstanceAs rules (key 1 (number k ∷ [])) (p_ground k)
unfolding p_ground
p_instance k stands = (
  p_rule,
  p_relevant k stands,
  record {
    atoms = [];
    told = [];
    are_atoms = record { ascend = tt; all = λ lit. (λ m. m, λ m. m) };
    are_told = refl;
    whole = refl;
  },
  (p_at k, p_value k, refl),
)

abbrev instances : List (Key × RuleOf Symbol Symbol)
instances =
    (key 0 (number 1 ∷ []), q_ground 1) ∷ (key 0 (number 2 ∷ []), q_ground 2) ∷ (key 1 (number 1 ∷ []), p_ground 1) ∷ (key 1 (number 2 ∷ []), p_ground 2) ∷ []

abbrev keys : List Key
keys = map (λ instance. instance.0) instances

two_places : (c : ReadRule) (place : ℕ) → slice_get rules place ≡ Some c → ((place ≡ 0) × (c ≡ q_rule)) ⊎ ((place ≡ 1) × (c ≡ p_rule))
two_places c zero e = inl (refl, cc)
two_places c (suc zero) e = inr (refl, cc)
two_places c (suc (suc place)) e = cc

same_key : (k : Key) (place : ℕ) (values : List Value) → k.place ≡ place → k.values ≡ values → k ≡ key place values
same_key k place values e f = λ i. record { place = e i; values = f i }

gives_member : (k : Key) → GivesRule rules k → IsMember keys k
gives_member k g = go (two_places g.0 k.place g.1.place)
  where
    of_q : k.place ≡ 0 → OneOrTwo k.values → IsMember keys k
    of_q e (inl f) = inl (same_key k 0 (number 1 ∷ []) e f)
    of_q e (inr f) = inr (inl (same_key k 0 (number 2 ∷ []) e f))

    of_p : k.place ≡ 1 → OneOrTwo k.values → IsMember keys k
    of_p e (inl f) = inr (inr (inl (same_key k 1 (number 1 ∷ []) e f)))
    of_p e (inr f) = inr (inr (inr (inl (same_key k 1 (number 2 ∷ []) e f))))

    go : ((k.place ≡ 0) × (g.0 ≡ q_rule)) ⊎ ((k.place ≡ 1) × (g.0 ≡ p_rule)) → IsMember keys k
    go (inl e) =
        let relevant = subst (IsRelevantOf rules k) e.1 g.1 in
        let first = relevant.positive.0 in
        of_q e.0 (q_values k.values relevant.stands first.0 first.1 (only_possible first.0 first.2))
    go (inr e) = of_p e.0 (p_values k.values (subst (IsRelevantOf rules k) e.1 g.1).stands)

member_gives : (k : Key) → IsMember keys k → GivesRule rules k
member_gives k (inl e) = subst (GivesRule rules) (sym e) (q_rule, q_relevant 1 one, refl)
member_gives k (inr (inl e)) = subst (GivesRule rules) (sym e) (q_rule, q_relevant 2 two, refl)
member_gives k (inr (inr (inl e))) = subst (GivesRule rules) (sym e) (p_rule, p_relevant 1 one, refl)
member_gives k (inr (inr (inr (inl e)))) = subst (GivesRule rules) (sym e) (p_rule, p_relevant 2 two, refl)
member_gives k (inr (inr (inr (inr m)))) = absurd m

-- ---- no theory atoms

no_theory : (c : ReadRule) (place : ℕ) → slice_get rules place ≡ Some c → (theory : ReadTheory) → IsMember (theories c) theory → ⊥
no_theory c place e theory m = go (two_places c place e)
  where
    go : ((place ≡ 0) × (c ≡ q_rule)) ⊎ ((place ≡ 1) × (c ≡ p_rule)) → ⊥
    go (inl f) = subst (λ z. IsMember (theories z) theory) f.1 m
    go (inr f) = subst (λ z. IsMember (theories z) theory) f.1 m

no_duty : (c : ReadRule) (place : ℕ) → slice_get rules place ≡ Some c → (theory : ReadTheory) → c.head ≡ ReadDuty theory → ⊥
no_duty c place e theory h = go (two_places c place e)
  where
    apart : (term : Term) → ReadAtom term ≡ ReadDuty theory → ⊥
    apart term e = cc

    go : ((place ≡ 0) × (c ≡ q_rule)) ⊎ ((place ≡ 1) × (c ≡ p_rule)) → ⊥
    go (inl f) = apart (q v) (sym (ap (λ z. z.head) f.1) ∙ h)
    go (inr f) = apart (p v) (sym (ap (λ z. z.head) f.1) ∙ h)

-- ---- the program

abbrev shown : List ReadShow
shown = ShowsPredicate (codes "q") 1 ∷ []

abbrev view : GroundView
view = record {
  atoms = atoms;
  variables = [];
  rules =
      record { body = AtomLit 1 true ∷ []; head = GivesHead 3 }
      ∷ record { body = AtomLit 2 true ∷ []; head = GivesHead 4 }
      ∷ record { body = []; head = GivesHead 1 }
      ∷ record { body = []; head = GivesHead 2 }
      ∷ [];
  has_objective = false;
  smaller = [];
  larger = [];
  shown_atoms = false ∷ false ∷ true ∷ true ∷ [];
  shown_variables = [];
}

-- four rules, in which the literals of r are left out, over four atoms, of which the last two are shown
canonical : IsCanonical (record { rules = rules; shows = shown }) view
unfolding q_ground p_ground
canonical = record {
  atoms = record {
    ascend = ((refl, (refl, (refl, tt))), ((refl, (refl, tt)), ((refl, tt), (tt, tt))));
    all = λ a. (all_possible a, only_possible a);
  };
  variables = record {
    ascend = tt;
    all = λ x. (λ m. absurd m, λ w. absurd (no_theory w.1 w.0.place w.3.relevant.place w.2 w.3.member));
  };
  instances = instances;
  listed = record {
    listed = record {
      ascend = ((refl, (refl, (refl, tt))), ((refl, (refl, tt)), ((refl, tt), (tt, tt))));
      all = λ k. (member_gives k, gives_member k);
    };
    each = (q_instance 1 one, (q_instance 2 two, (p_instance 1 one, (p_instance 2 two, tt))));
  };
  rules = refl;
  objective = refl;
  smaller = ([], record { ascend = tt; all = λ x. (λ m. absurd m, λ w. absurd (no_duty w.1 w.0.place w.3.relevant.place w.2 w.3.head)) }, refl);
  larger = ([], record { ascend = tt; all = λ x. (λ m. absurd m, λ w. absurd (no_duty w.1 w.0.place w.3.relevant.place w.2 w.3.head)) }, refl);
  shown_atoms = refl;
  shown_variables = tt;
}
