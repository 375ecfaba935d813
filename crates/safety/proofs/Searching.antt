-- The first rule that fails, statement by statement.
use Rattle.std.proofs.Common.{◌≡◌, inl, inr, ℕ, zero, suc, ◌+◌, ◌<◌, ◌≤◌, List, [], ◌∷◌, ◌++◌, map, take, drop, length, Some, slice_get, slice_index_or, refl, sym, ap, ◌∙◌, subst, append-nil, length-append, add-one, arith}
use Rattle.syntax_tree.specs.declared.rule.Rule.{Rule}
use Rattle.syntax_tree.specs.declared.statement.Statement.{Statement}
use Rattle.syntax_tree.specs.declared.statement.Statement.TheVariants as statement
use Rattle.ground_model.specs.Members.{IsMember}
use Rattle.safety_meaning.specs.Failures as meant
use Rattle.safety_meaning.specs.Program.{rule_in, written_rules, rules_of}
use Rattle.safety.specs.declared.failure.FirstFailure.{FirstFailure}
use Rattle.safety.specs.declared.failure.Step.{Step}
use Rattle.safety.specs.declared.failure.Step.TheVariants.{Next, Failed}
use Rattle.safety.specs.Judgement.{said}
use Rattle.safety.specs.inner.Rules.{IsStep, IsNextWithin, AreFineBefore}
use Rattle.safety.proofs.Lists.{flat_append, flat_one, member_append}

-- ---- what stands at a place

pub map_at : {X Y : Type 0} (f : X → Y) (all : List X) (ys : List Y) (i : ℕ) (y : Y) → ys ≡ map f all → y ≡ slice_index_or ys i y → i < length ys
    → (x : X) × (slice_get all i ≡ Some x) × (y ≡ f x)
map_at {X} {Y} f all ys i y e is b = at all i (subst (λ v. y ≡ slice_index_or v i y) e is) (subst (λ v. i < length v) e b)
  where
    at : (all : List X) (i : ℕ) → y ≡ slice_index_or (map f all) i y → i < length (map f all) → (x : X) × (slice_get all i ≡ Some x) × (y ≡ f x)
    at [] i is b = absurd (omega arith)
    at (x ∷ xs) zero is b = (x, refl, is)
    at (x ∷ xs) (suc i) is b = at xs i is (omega arith)

pub map_is : {X Y : Type 0} (f : X → Y) (all : List X) (ys : List Y) (i : ℕ) (x : X) (y : Y) → ys ≡ map f all → slice_get all i ≡ Some x → y ≡ slice_index_or ys i y → y ≡ f x
map_is {X} {Y} f all ys i x y e got is = at all i got (subst (λ v. y ≡ slice_index_or v i y) e is)
  where
    at : (all : List X) (i : ℕ) → slice_get all i ≡ Some x → y ≡ slice_index_or (map f all) i y → y ≡ f x
    at [] i got is = absurd cc
    at (z ∷ zs) zero got is = let s : z ≡ x = cc in is ∙ ap f s
    at (z ∷ zs) (suc i) got is = at zs i got is

-- ---- the rules before a statement and behind it

taken_got : (all : List Statement) (i : ℕ) (s : Statement) → slice_get all i ≡ Some s → take (suc i) all ≡ take i all ++ s ∷ []
taken_got [] i s e = absurd cc
taken_got (x ∷ xs) zero s e = let p : x ≡ s = cc in ap (λ v. v ∷ []) p
taken_got (x ∷ xs) (suc i) s e = ap (λ v. x ∷ v) (taken_got xs i s e)

whole_got : (all : List Statement) (i : ℕ) (s : Statement) → slice_get all i ≡ Some s → all ≡ take i all ++ s ∷ drop (suc i) all
whole_got [] i s e = absurd cc
whole_got (x ∷ xs) zero s e = let p : x ≡ s = cc in ap (λ v. v ∷ xs) p
whole_got (x ∷ xs) (suc i) s e = ap (λ v. x ∷ v) (whole_got xs i s e)

rules_taken : (all : List Statement) (i : ℕ) (s : Statement) → slice_get all i ≡ Some s → written_rules (take (i + 1) all) ≡ written_rules (take i all) ++ rule_in s
rules_taken all i s e =
    ap (λ n. written_rules (take n all)) (add-one i) ∙ ap written_rules (taken_got all i s e) ∙ flat_append rule_in (take i all) (s ∷ [])
    ∙ ap (λ v. written_rules (take i all) ++ v) (flat_one rule_in s)

rules_whole : (all : List Statement) (i : ℕ) (s : Statement) → slice_get all i ≡ Some s
    → written_rules all ≡ written_rules (take i all) ++ (rule_in s ++ written_rules (drop (suc i) all))
rules_whole all i s e = ap written_rules (whole_got all i s e) ∙ flat_append rule_in (take i all) (s ∷ drop (suc i) all)

got_behind : {X : Type 0} (xs ys : List X) (x : X) → slice_get (xs ++ x ∷ ys) (length xs) ≡ Some x
got_behind [] ys x = refl
got_behind (z ∷ zs) ys x = got_behind zs ys x

got_before : {X : Type 0} (xs ys : List X) (i : ℕ) (x : X) → i < length xs → slice_get (xs ++ ys) i ≡ Some x → IsMember xs x
got_before [] ys i x less e = absurd (omega arith)
got_before (z ∷ zs) ys zero x less e = let p : x ≡ z = cc in inl p
got_before (z ∷ zs) ys (suc i) x less e = inr (got_before zs ys i x (omega arith) e)

-- ---- a step

failed_in : (all : List Statement) (i place : ℕ) (found : FirstFailure) (rules rest : List Rule) → written_rules all ≡ written_rules (take i all) ++ (rules ++ rest)
    → AreFineBefore all i place → IsStep (rules_of all) place rules (Failed found) → meant.IsFirstFailure all found.rule (said found.failure)
failed_in all i place found [] rest e fine h = absurd h
failed_in all i place found (rule ∷ rules) rest e fine h =
    let at : found.rule ≡ length (written_rules (take i all)) = h.0 ∙ fine.count in
    record {
      rule = rule;
      here = subst (λ n. slice_get (written_rules all) n ≡ Some rule) (sym at)
          (subst (λ v. slice_get v (length (written_rules (take i all))) ≡ Some rule) (sym e) (got_behind (written_rules (take i all)) (rules ++ rest) rule));
      fails = h.1;
      before = λ other earlier less got.
          fine.each earlier
          (got_before (written_rules (take i all)) ((rule ∷ rules) ++ rest) other earlier (subst (λ n. other < n) at less)
          (subst (λ v. slice_get v other ≡ Some earlier) e got));
    }

pub failed_first : (all : List Statement) (i place : ℕ) (s : Statement) (step : Step) (found : FirstFailure) → slice_get all i ≡ Some s → step ≡ Failed found → AreFineBefore all i place
    → IsStep (rules_of all) place (rule_in s) step → meant.IsFirstFailure all found.rule (said found.failure)
failed_first all i place s step found e is fine h =
    failed_in all i place found (rule_in s) (written_rules (drop (suc i) all)) (rules_whole all i s e) fine (subst (IsStep (rules_of all) place (rule_in s)) is h)

next_in : (all : List Statement) (i place n : ℕ) (s : Statement) (rules : List Rule) → rules ≡ rule_in s → length rules ≤ 1 → written_rules (take (i + 1) all) ≡ written_rules (take i all) ++ rules
    → AreFineBefore all i place → IsStep (rules_of all) place rules (Next n) → AreFineBefore all (i + 1) n
next_in all i place n s [] same few e fine h = record {
  count = h ∙ fine.count ∙ ap length (sym (append-nil (written_rules (take i all)))) ∙ ap length (sym e);
  each = λ rule m. fine.each rule (subst (λ v. IsMember v rule) (e ∙ append-nil (written_rules (take i all))) m);
}
next_in all i place n s (rule ∷ []) same few e fine h = record {
  count =
      let p = h.0 in
      let q = fine.count in
      let l : length (written_rules (take (i + 1) all)) ≡ length (written_rules (take i all)) + 1 = ap length e ∙ length-append (written_rules (take i all)) (rule ∷ []) in
      omega (arith, p, q, l);
  each = λ other m. elim (member_append (written_rules (take i all)) (rule ∷ []) other (subst (λ v. IsMember v other) e m)) [
    | inl k ↦ fine.each other k
    | inr k ↦ (elim k [ inl p ↦ subst (meant.IsFine (rules_of all)) (sym p) h.1 | inr none ↦ absurd none ])
  ];
}
next_in all i place n s (rule ∷ other ∷ rules) same few e fine h = absurd (omega arith)

few_in : (s : Statement) → length (rule_in s) ≤ 1
few_in (statement.Rule rule) = omega arith
few_in (statement.Constant name term place) = omega arith
few_in statement.ShowNothing = omega arith
few_in (statement.Show name arity) = omega arith

pub next_fine : (all : List Statement) (i place n : ℕ) (s : Statement) (step : Step) → slice_get all i ≡ Some s → step ≡ Next n → AreFineBefore all i place
    → IsStep (rules_of all) place (rule_in s) step → AreFineBefore all (i + 1) n
next_fine all i place n s step e is fine h =
    next_in all i place n s (rule_in s) refl (few_in s) (rules_taken all i s e) fine (subst (IsStep (rules_of all) place (rule_in s)) is h)

pub next_within : (place n index : ℕ) (step : Step) → step ≡ Next n → place ≤ index → IsNextWithin place step → n ≤ index + 1
next_within place n index step is le h = let k : n ≤ place + 1 = subst (IsNextWithin place) is h in omega arith
