-- Which nogoods a world meets, one kind at a time.
use Rattle.std.proofs.Common.{◌≡◌, ℕ, suc, ◌+◌, Bool, true, false, not, ◌&&◌, ◌||◌, inl, inr, List, [], ◌∷◌, map, option_to_list, refl, sym, ◌∙◌, ap, ap₂, true≢false, Option, Some, None, slice_get, arith}
use Rattle.std.specs.List.{AllByRecursion}
use Rattle.literals.specs.declared.lit.Lit.{Lit}
use Rattle.literals.specs.declared.lit.Lit.TheVariants as l
use Rattle.literals.specs.Lits.{complement_of}
use Rattle.literals.specs.Nogoods.{canonical}
use Rattle.literals.specs.Truths.{Truths, lit_true, all_true, Meets}
use Rattle.literals.proofs.Worlds.{true_canonical, complement_true}
use Rattle.ground_model.specs.Members.{IsMember}
use Rattle.ground_model.proofs.MemberLemmas.{any_member, member_any, all_member}
use Rattle.linear_normal.specs.declared.constraint.Constraint.{Constraint}
use Rattle.linear_normal.specs.declared.constraint.Constraint.TheVariants as c
use Rattle.linear_normal.specs.declared.numbered.Conjunction.{Conjunction}
use Rattle.linear_normal.specs.declared.numbered.Duty.{Duty}
use Rattle.linear_normal.specs.Truth.{constraint_truth}
use Rattle.completion.specs.Inputs.{body_nogoods, bodies_nogoods, duty_nogood, all_false, constraint_nogoods, constraints_nogoods}
use Rattle.linear_normal.proofs.ListLemmas.{all_append, all_map}

pub met_from : (t : Truths) (xs : List Lit) → all_true t xs ≡ false → Meets t (canonical xs)
met_from t xs e = true_canonical t xs ∙ e

pub met_to : (t : Truths) (xs : List Lit) → Meets t (canonical xs) → all_true t xs ≡ false
met_to t xs m = sym (true_canonical t xs) ∙ m

-- BODIES

one_body : (t : Truths) (n : ℕ) (lits : List Lit) → t.body n ≡ all_true t lits → AllByRecursion (Meets t) (body_nogoods n lits)
one_body t n lits e = (
  met_from t (l.Body n false ∷ lits) (never (t.body n) (all_true t lits) e),
  all_map (Meets t) (λ lit. canonical (l.Body n true ∷ complement_of lit ∷ [])) lits
      (λ lit m. met_from t (l.Body n true ∷ complement_of lit ∷ []) (ap (λ b. t.body n && (b && true)) (complement_true t lit) ∙ told lit m (t.body n) refl)),
)
  where
    never : (a b : Bool) → a ≡ b → (not a && b) ≡ false
    never true b e = refl
    never false b e = sym e

    told : (lit : Lit) → IsMember lits lit → (b : Bool) → t.body n ≡ b → (b && (not (lit_true t lit) && true)) ≡ false
    told lit m false f = refl
    told lit m true f = ap (λ b. not b && true) (all_member (lit_true t) lits lit (sym e ∙ f) m)

pub bodies_met : (t : Truths) (n : ℕ) (bodies : List Conjunction) → ((k : ℕ) (body : Conjunction) → slice_get bodies k ≡ Some body → t.body (n + k) ≡ all_true t body.lits)
    → AllByRecursion (Meets t) (bodies_nogoods n bodies)
bodies_met t n [] h = tt
bodies_met t n (body ∷ bodies) h =
    all_append (Meets t) (body_nogoods n body.lits) (bodies_nogoods (n + 1) bodies)
    (one_body t n body.lits (ap t.body plus_zero ∙ h 0 body refl))
    (bodies_met t (n + 1) bodies (λ k other e. ap t.body (shift k) ∙ h (suc k) other e))
  where
    plus_zero : n ≡ n + 0
    plus_zero = omega arith

    shift : (k : ℕ) → (n + 1) + k ≡ n + suc k
    shift k = omega arith

-- DUTIES

-- whether the head of a duty is true, where it has one
abbrev pub head_true : Truths → Option Lit → Bool
head_true t None = false
head_true t (Some lit) = lit_true t lit

pub duty_done : (t : Truths) (duty : Duty) → Meets t (duty_nogood duty) → (not (t.body duty.body) || head_true t duty.head) ≡ true
duty_done t duty m = go duty.head (met_to t (l.Body duty.body true ∷ map complement_of (option_to_list duty.head)) m)
  where
    none : (b : Bool) → (b && true) ≡ false → (not b || false) ≡ true
    none true e = sym e
    none false e = refl

    some : (b x h : Bool) → x ≡ not h → (b && (x && true)) ≡ false → (not b || h) ≡ true
    some true x true f e = refl
    some true x false f e = absurd (true≢false (sym (ap (λ y. y && true) f) ∙ e))
    some false x h f e = refl

    go : (head : Option Lit) → all_true t (l.Body duty.body true ∷ map complement_of (option_to_list head)) ≡ false → (not (t.body duty.body) || head_true t head) ≡ true
    go None e = none (t.body duty.body) e
    go (Some lit) e = some (t.body duty.body) (lit_true t (complement_of lit)) (lit_true t lit) (complement_true t lit) e

pub duty_met : (t : Truths) (duty : Duty) → (not (t.body duty.body) || head_true t duty.head) ≡ true → Meets t (duty_nogood duty)
duty_met t duty e = met_from t (l.Body duty.body true ∷ map complement_of (option_to_list duty.head)) (go duty.head e)
  where
    none : (b : Bool) → (not b || false) ≡ true → (b && true) ≡ false
    none true e = sym e
    none false e = refl

    some : (b x h : Bool) → x ≡ not h → (not b || h) ≡ true → (b && (x && true)) ≡ false
    some true x true f e = ap (λ y. y && true) f
    some true x false f e = absurd (true≢false (sym e))
    some false x h f e = refl

    go : (head : Option Lit) → (not (t.body duty.body) || head_true t head) ≡ true → all_true t (l.Body duty.body true ∷ map complement_of (option_to_list head)) ≡ false
    go None e = none (t.body duty.body) e
    go (Some lit) e = some (t.body duty.body) (lit_true t (complement_of lit)) (lit_true t lit) (complement_true t lit) e

-- BODIES AS FALSE

pub one_is_true : (t : Truths) (bodies : List ℕ) → all_true t (all_false bodies) ≡ false → (n : ℕ) × IsMember bodies n × (t.body n ≡ true)
one_is_true t [] e = absurd (true≢false e)
one_is_true t (n ∷ bodies) e = go (t.body n) refl (one_is_true t bodies)
  where
    go : (b : Bool) → t.body n ≡ b → (all_true t (all_false bodies) ≡ false → (m : ℕ) × IsMember bodies m × (t.body m ≡ true)) → (m : ℕ) × IsMember (n ∷ bodies) m × (t.body m ≡ true)
    go true f rec = (n, inl refl, f)
    go false f rec = let r = rec (sym (ap (λ b. not b && all_true t (all_false bodies)) f) ∙ e) in (r.0, inr r.1, r.2)

pub true_refutes : (t : Truths) (bodies : List ℕ) (n : ℕ) → IsMember bodies n → t.body n ≡ true → all_true t (all_false bodies) ≡ false
true_refutes t [] n m e = absurd m
true_refutes t (x ∷ bodies) n (inl f) e = ap (λ b. not b && all_true t (all_false bodies)) (ap t.body (sym f) ∙ e)
true_refutes t (x ∷ bodies) n (inr m) e = ap (λ b. not (t.body x) && b) (true_refutes t bodies n m e) ∙ never (not (t.body x))
  where
    never : (b : Bool) → (b && false) ≡ false
    never true = refl
    never false = refl

-- CONSTRAINTS

pub constraint_met : (t : Truths) (n : ℕ) (constraint : Constraint) → t.constraint n ≡ constraint_truth t constraint → AllByRecursion (Meets t) (constraint_nogoods n constraint)
constraint_met t n (c.AtMost items k) e = tt
constraint_met t n (c.Domain x set) e = tt
constraint_met t n (c.Distinct places) e = tt
constraint_met t n (c.Disjoint places) e = tt
constraint_met t n (c.Both i j) e =
    (met_from t (l.Constraint n true ∷ l.Constraint i false ∷ []) (first (t.constraint n) (t.constraint i) (t.constraint j) e), (met_from t (l.Constraint n true ∷ l.Constraint j false ∷ []) (second (t.constraint n) (t.constraint i) (t.constraint j) e), (met_from t (l.Constraint n false ∷ l.Constraint i true ∷ l.Constraint j true ∷ []) (third (t.constraint n) (t.constraint i) (t.constraint j) e), tt)))
  where
    first : (x a b : Bool) → x ≡ (a && b) → (x && (not a && true)) ≡ false
    first x true true e = ap (λ y. y && false) e
    first x true false e = ap (λ y. y && false) e
    first x false b e = ap (λ y. y && true) e

    second : (x a b : Bool) → x ≡ (a && b) → (x && (not b && true)) ≡ false
    second x true true e = ap (λ y. y && false) e
    second x true false e = ap (λ y. y && true) e
    second x false true e = ap (λ y. y && false) e
    second x false false e = ap (λ y. y && true) e

    third : (x a b : Bool) → x ≡ (a && b) → (not x && (a && (b && true))) ≡ false
    third x true true e = ap (λ y. not y && true) e
    third x true false e = ap (λ y. not y && false) e
    third x false b e = ap (λ y. not y && false) e
constraint_met t n (c.Either i j) e =
    (met_from t (l.Constraint n true ∷ l.Constraint i false ∷ l.Constraint j false ∷ []) (first (t.constraint n) (t.constraint i) (t.constraint j) e), (met_from t (l.Constraint n false ∷ l.Constraint i true ∷ []) (second (t.constraint n) (t.constraint i) (t.constraint j) e), (met_from t (l.Constraint n false ∷ l.Constraint j true ∷ []) (third (t.constraint n) (t.constraint i) (t.constraint j) e), tt)))
  where
    first : (x a b : Bool) → x ≡ (a || b) → (x && (not a && (not b && true))) ≡ false
    first x true b e = ap (λ y. y && false) e
    first x false true e = ap (λ y. y && false) e
    first x false false e = ap (λ y. y && true) e

    second : (x a b : Bool) → x ≡ (a || b) → (not x && (a && true)) ≡ false
    second x true b e = ap (λ y. not y && true) e
    second x false true e = ap (λ y. not y && false) e
    second x false false e = ap (λ y. not y && false) e

    third : (x a b : Bool) → x ≡ (a || b) → (not x && (b && true)) ≡ false
    third x true true e = ap (λ y. not y && true) e
    third x true false e = ap (λ y. not y && false) e
    third x false true e = ap (λ y. not y && true) e
    third x false false e = ap (λ y. not y && false) e
constraint_met t n (c.Tally bodies) e = (
  met_from t (l.Constraint n true ∷ all_false bodies) (all_told (t.constraint n) refl),
  all_map (Meets t) (λ b. canonical (l.Constraint n false ∷ l.Body b true ∷ [])) bodies
      (λ b m. met_from t (l.Constraint n false ∷ l.Body b true ∷ []) (one_told b m (t.body b) refl)),
)
  where
    one_told : (b : ℕ) → IsMember bodies b → (x : Bool) → t.body b ≡ x → (not (t.constraint n) && (t.body b && true)) ≡ false
    one_told b m true f = ap₂ (λ p q. not p && (q && true)) (e ∙ any_member t.body bodies b m f) f
    one_told b m false f = ap (λ q. not (t.constraint n) && (q && true)) f ∙ never (not (t.constraint n))
      where
        never : (b : Bool) → (b && false) ≡ false
        never true = refl
        never false = refl

    all_told : (x : Bool) → t.constraint n ≡ x → (t.constraint n && all_true t (all_false bodies)) ≡ false
    all_told false f = ap (λ b. b && all_true t (all_false bodies)) f
    all_told true f =
        let r = member_any t.body bodies (sym e ∙ f) in
        ap₂ ◌&&◌ f (true_refutes t bodies r.0 r.1 r.2)

pub constraints_met : (t : Truths) (n : ℕ) (constraints : List Constraint) → ((k : ℕ) (constraint : Constraint) → slice_get constraints k ≡ Some constraint → t.constraint (n + k) ≡ constraint_truth t constraint)
    → AllByRecursion (Meets t) (constraints_nogoods n constraints)
constraints_met t n [] h = tt
constraints_met t n (constraint ∷ constraints) h =
    all_append (Meets t) (constraint_nogoods n constraint) (constraints_nogoods (n + 1) constraints)
    (constraint_met t n constraint (ap t.constraint plus_zero ∙ h 0 constraint refl))
    (constraints_met t (n + 1) constraints (λ k other e. ap t.constraint (shift k) ∙ h (suc k) other e))
  where
    plus_zero : n ≡ n + 0
    plus_zero = omega arith

    shift : (k : ℕ) → (n + 1) + k ≡ n + suc k
    shift k = omega arith
