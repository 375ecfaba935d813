-- Numbers that are flagged and noted.
use Rattle.std.proofs.Common.{◌≡◌, ◌⊎◌, inl, inr, ℕ, zero, suc, ◌+◌, ◌<◌, ◌≤◌, ◌==◌, ◌||◌, Bool, true, false, not, List, [], ◌∷◌, ◌++◌, map, filter, length, take, slice_index_or, slice_set, replicate, refl, sym, ap, ◌∙◌, subst, arith, true≢false}
use Rattle.std.specs.List.{flat_map, list_any, AllWithin}
use Rattle.std.proofs.lemmas.Bool.{cases_lt, cases_eq}
use Rattle.std.proofs.lemmas.Bool.Decides.{nat_tests}
use Rattle.std.proofs.lemmas.List.{get_or-set_same, get_or-set_other}
use Rattle.ground_model.specs.Members.{IsMember}
use Rattle.ground_model.proofs.MemberLemmas.{same_nat}
use Rattle.definite_rules.specs.Rule.{DefiniteRule}
use Rattle.definite_rules.specs.Least.{flag_at, IsLeastModel}
use Rattle.program_meaning.specs.Read.{PlainLiteral}
use Rattle.program_meaning.specs.Safety.{IsBound}
use Rattle.variable_safety.specs.inner.Binding.{fact, binding_rules, AreBound, AreFlags}
use Rattle.variable_safety.specs.inner.Noting.{Notes, IsLoose}
use Rattle.variable_safety.proofs.Lists.{listed, is_listed, member_append, member_left, member_right, member_filter, filter_member, any_append, taken_more, map_append}
use Rattle.variable_safety.proofs.Binds.{bound_flags}

pub any_default : {X : Type 0} (xs : List X) (i : ℕ) (d e : X) → i < length xs → slice_index_or xs i d ≡ slice_index_or xs i e
any_default [] i d e b = absurd (omega arith)
any_default (y ∷ ys) zero d e b = refl
any_default (y ∷ ys) (suc i) d e b = any_default ys i d e (omega arith)

pub within_more : (xs : List ℕ) (i size new : ℕ) → i < length xs → size ≤ new → slice_index_or xs i 0 < new → AllWithin (λ n. n < size) xs 0 i → AllWithin (λ n. n < new) xs 0 (i + 1)
within_more xs i size new b le here h k d low below = by_place (cases_lt k i)
  where
    by_place : (k < i) ⊎ (i ≤ k) → slice_index_or xs k d < new
    by_place (inl l) = let s : slice_index_or xs k d < size = h k d low l in omega arith
    by_place (inr g) =
        let e : i ≡ k = omega arith in
        subst (λ v. slice_index_or xs v d < new) e (subst (λ v. v < new) (any_default xs i 0 d b) here)

-- FLAGS

or_false : (a : Bool) → a ≡ (a || (false || false))
or_false true = refl
or_false false = refl

or_true : (a : Bool) → true ≡ (a || (true || false))
or_true true = refl
or_true false = refl

unequal_nat : (m n : ℕ) → (n ≡ m → ⊥) → (m == n) ≡ false
unequal_nat m n h = grind (arith, nat_tests)

-- one more is flagged
pub flags_more : (xs : List ℕ) (i m : ℕ) (flags : List Bool) → m ≡ slice_index_or xs i m → i < length xs → m < length flags → AreFlags (take i xs) flags
    → AreFlags (take (i + 1) xs) (slice_set flags m true)
flags_more xs i m flags is inside room h n =
    elim (cases_eq n m) [
      | inl e ↦ (
          subst (λ v. slice_index_or (slice_set flags m true) v false ≡ true) (sym e) (get_or-set_same flags m true false room)
          ∙ or_true (list_any (λ k. k == n) (take i xs)) ∙ ap (λ v. list_any (λ k. k == n) (take i xs) || (v || false)) (sym (same_nat m n (sym e)))
          ∙ sym more)
      | inr ne ↦ (
          get_or-set_other flags m n true false ne ∙ h n ∙ or_false (list_any (λ k. k == n) (take i xs))
          ∙ ap (λ v. list_any (λ k. k == n) (take i xs) || (v || false)) (sym (unequal_nat m n ne))
          ∙ sym more)
    ]
  where
    more : list_any (λ k. k == n) (take (i + 1) xs) ≡ (list_any (λ k. k == n) (take i xs) || ((m == n) || false))
    more = ap (λ v. list_any (λ k. k == n) v) (taken_more xs i m is inside) ∙ any_append (λ k. k == n) (take i xs) (m ∷ [])

pub no_flags : (size n : ℕ) → flag_at (replicate size false) n ≡ false
no_flags zero n = refl
no_flags (suc size) zero = refl
no_flags (suc size) (suc n) = no_flags size n

-- WHAT IS NOTED

pub notes_none : (P : ℕ → Type 0) (xs : List ℕ) → ((n : ℕ) → P n → ⊥) → Notes P xs xs
notes_none P xs none = record { kept = λ n m. m; sound = λ n m. inl m; whole = λ n p. absurd (none n p) }

pub notes_added : (P : ℕ → Type 0) (old new more : List ℕ) → new ≡ old ++ more → ((n : ℕ) → IsMember more n → P n) → ((n : ℕ) → P n → IsMember more n) → Notes P old new
notes_added P old new more e f g = record {
  kept = λ n m. subst (λ v. IsMember v n) (sym e) (member_left old more n m);
  sound = λ n m. elim (member_append old more n (subst (λ v. IsMember v n) e m)) [ inl k ↦ inl k | inr k ↦ inr (f n k) ];
  whole = λ n p. subst (λ v. IsMember v n) (sym e) (member_right old more n (g n p));
}

pub notes_both : (P Q R : ℕ → Type 0) (one two three : List ℕ) → Notes P one two → Notes Q two three → ((n : ℕ) → P n → R n) → ((n : ℕ) → Q n → R n)
    → ((n : ℕ) → R n → P n ⊎ Q n) → Notes R one three
notes_both P Q R one two three h k f g both = record {
  kept = λ n m. k.kept n (h.kept n m);
  sound = λ n m. elim (k.sound n m) [ inl a ↦ elim (h.sound n a) [ inl b ↦ inl b | inr p ↦ inr (f n p) ] | inr q ↦ inr (g n q) ];
  whole = λ n r. elim (both n r) [ inl p ↦ k.kept n (h.whole n p) | inr q ↦ k.whole n q ];
}

pub notes_same : (P Q : ℕ → Type 0) (old new : List ℕ) → Notes P old new → ((n : ℕ) → P n → Q n) → ((n : ℕ) → Q n → P n) → Notes Q old new
notes_same P Q old new h f g = record {
  kept = h.kept;
  sound = λ n m. elim (h.sound n m) [ inl a ↦ inl a | inr p ↦ inr (f n p) ];
  whole = λ n q. h.whole n (g n q);
}

abbrev pub IsUnbound : List ℕ → List ℕ → List PlainLiteral → ℕ → Type 0
IsUnbound given locals literals n = IsMember locals n × (IsBound (IsMember given) literals n → ⊥)

not_flag : (b : Bool) → not b ≡ true → b ≡ true → ⊥
not_flag true e h = true≢false (sym e)
not_flag false e h = true≢false (sym h)

not_from : (b : Bool) → (b ≡ true → ⊥) → not b ≡ true
not_from true h = absurd (h refl)
not_from false h = refl

pub unbound_noted : (given locals : List ℕ) (literals : List PlainLiteral) (flags : List Bool) (old new : List ℕ) → AreBound given literals flags
    → new ≡ old ++ filter (λ n. not (flag_at flags n)) locals → Notes (IsUnbound given locals literals) old new
unbound_noted given locals literals flags old new bound e =
    notes_added (IsUnbound given locals literals) old new (filter (λ n. not (flag_at flags n)) locals) e
    (λ n m. let r = member_filter (λ k. not (flag_at flags k)) locals n m in (r.0, λ b. not_flag (flag_at flags n) r.1 (bound.whole n b)))
    (λ n p. filter_member (λ k. not (flag_at flags k)) locals n p.0 (not_from (flag_at flags n) (λ h. p.1 (bound.sound n h))))

-- those of the variables that are not given
local_sound : (given variables : List ℕ) (flags : List Bool) (locals : List ℕ) → AreFlags given flags → locals ≡ [] ++ filter (λ n. not (flag_at flags n)) variables
    → (n : ℕ) → IsMember locals n → IsMember variables n × (IsMember given n → ⊥)
local_sound given variables flags locals h e n m =
    let r = member_filter (λ k. not (flag_at flags k)) variables n (subst (λ v. IsMember v n) e m) in
    (r.0, λ g. not_flag (flag_at flags n) r.1 (h n ∙ is_listed n given g))

local_whole : (given variables : List ℕ) (flags : List Bool) (locals : List ℕ) → AreFlags given flags → locals ≡ [] ++ filter (λ n. not (flag_at flags n)) variables
    → (n : ℕ) → IsMember variables n → (IsMember given n → ⊥) → IsMember locals n
local_whole given variables flags locals h e n m absent =
    subst (λ v. IsMember v n) (sym e)
    (filter_member (λ k. not (flag_at flags k)) variables n m (not_from (flag_at flags n) (λ f. absent (listed n given (sym (h n) ∙ f)))))

pub loose_noted : (given variables : List ℕ) (literals : List PlainLiteral) (flags : List Bool) (locals old new : List ℕ) → AreFlags given flags
    → locals ≡ [] ++ filter (λ n. not (flag_at flags n)) variables → Notes (IsUnbound given locals literals) old new → Notes (IsLoose given variables literals) old new
loose_noted given variables literals flags locals old new h e notes =
    notes_same (IsUnbound given locals literals) (IsLoose given variables literals) old new notes
    (λ n p. let r = local_sound given variables flags locals h e n p.0 in (r.0, r.1, p.1))
    (λ n p. (local_whole given variables flags locals h e n p.0 p.1, p.2))

pub none_loose : (given variables : List ℕ) (literals : List PlainLiteral) (flags : List Bool) (locals old : List ℕ) → AreFlags given flags
    → locals ≡ [] ++ filter (λ n. not (flag_at flags n)) variables → locals ≡ [] → Notes (IsLoose given variables literals) old old
none_loose given variables literals flags locals old h e none =
    notes_none (IsLoose given variables literals) old
    (λ n p. let none_in : IsMember [] n = subst (λ v. IsMember v n) none (local_whole given variables flags locals h e n p.0 p.1) in absurd none_in)

-- ONE ITEM OF A LIST MORE

pub notes_more : {X Y : Type 0} (P : Y → ℕ → Type 0) (f : X → Y) (xs : List X) (i : ℕ) (x : X) (start old new : List ℕ) → x ≡ slice_index_or xs i x → i < length xs
    → Notes (λ n. (y : Y) × IsMember (map f (take i xs)) y × P y n) start old → Notes (P (f x)) old new
    → Notes (λ n. (y : Y) × IsMember (map f (take (i + 1) xs)) y × P y n) start new
notes_more {X} {Y} P f xs i x start old new is inside h k =
    let e : map f (take (i + 1) xs) ≡ map f (take i xs) ++ f x ∷ [] = ap (map f) (taken_more xs i x is inside) ∙ map_append f (take i xs) (x ∷ []) in
    notes_both (λ n. (y : Y) × IsMember (map f (take i xs)) y × P y n) (P (f x)) (λ n. (y : Y) × IsMember (map f (take (i + 1) xs)) y × P y n) start old new h k
    (λ n p. (p.0, subst (λ v. IsMember v p.0) (sym e) (member_left (map f (take i xs)) (f x ∷ []) p.0 p.1), p.2))
    (λ n p. (f x, subst (λ v. IsMember v (f x)) (sym e) (member_right (map f (take i xs)) (f x ∷ []) (f x) (inl refl)), p))
    (λ n r. elim (member_append (map f (take i xs)) (f x ∷ []) r.0 (subst (λ v. IsMember v r.0) e r.1)) [
      | inl m ↦ inl (r.0, m, r.2)
      | inr m ↦ (elim m [ inl q ↦ inr (subst (λ y. P y n) q r.2) | inr none ↦ absurd none ])
    ])

-- THE RULES THAT A CONDITION GIVES

pub rules_are : {X : Type 0} (r0 r1 r2 a b : List X) → r0 ≡ [] → r1 ≡ r0 ++ a → r2 ≡ r1 ++ b → r2 ≡ a ++ b
rules_are r0 r1 r2 a b e f g = g ∙ ap (λ v. v ++ b) (f ∙ ap (λ v. v ++ a) e)

pub condition_bound : (given : List ℕ) (literals : List PlainLiteral) (r0 r1 r2 : List DefiniteRule) (flags : List Bool) → r0 ≡ [] → r1 ≡ r0 ++ map fact given
    → r2 ≡ r1 ++ flat_map binding_rules literals → IsLeastModel r2 flags → AreBound given literals flags
condition_bound given literals r0 r1 r2 flags e f g h =
    bound_flags given literals flags (subst (λ v. IsLeastModel v flags) (rules_are r0 r1 r2 (map fact given) (flat_map binding_rules literals) e f g) h)

-- THE SAME UP TO EQUATIONS

pub unbound_noted_at : (given given' locals : List ℕ) (literals : List PlainLiteral) (flags flags' : List Bool) (old new : List ℕ) → given' ≡ given → flags' ≡ flags
    → AreBound given' literals flags → new ≡ old ++ filter (λ n. not (flag_at flags' n)) locals → Notes (IsUnbound given locals literals) old new
unbound_noted_at given given' locals literals flags flags' old new e f bound h =
    unbound_noted given locals literals flags old new (subst (λ v. AreBound v literals flags) e bound)
    (subst (λ v. new ≡ old ++ filter (λ n. not (flag_at v n)) locals) f h)

locals_at : (variables : List ℕ) (flags flags' : List Bool) (l0 locals : List ℕ) → flags' ≡ flags → l0 ≡ [] → locals ≡ l0 ++ filter (λ n. not (flag_at flags' n)) variables
    → locals ≡ [] ++ filter (λ n. not (flag_at flags n)) variables
locals_at variables flags flags' l0 locals f e h = h ∙ (λ i. e i ++ filter (λ n. not (flag_at (f i) n)) variables)

pub none_loose_at : (given variables : List ℕ) (literals : List PlainLiteral) (flags flags' : List Bool) (l0 locals old : List ℕ) → AreFlags given flags → flags' ≡ flags
    → l0 ≡ [] → locals ≡ l0 ++ filter (λ n. not (flag_at flags' n)) variables → locals ≡ [] → Notes (IsLoose given variables literals) old old
none_loose_at given variables literals flags flags' l0 locals old a f e h none =
    none_loose given variables literals flags locals old a (locals_at variables flags flags' l0 locals f e h) none

pub loose_noted_at : (given variables : List ℕ) (literals : List PlainLiteral) (flags flags' : List Bool) (l0 locals locals' old new : List ℕ) → AreFlags given flags
    → flags' ≡ flags → l0 ≡ [] → locals ≡ l0 ++ filter (λ n. not (flag_at flags' n)) variables → locals' ≡ locals → Notes (IsUnbound given locals' literals) old new
    → Notes (IsLoose given variables literals) old new
loose_noted_at given variables literals flags flags' l0 locals locals' old new a f e h s notes =
    loose_noted given variables literals flags locals old new a (locals_at variables flags flags' l0 locals f e h)
    (subst (λ v. Notes (IsUnbound given v literals) old new) s notes)

pub loose_at : (given given' variables variables' : List ℕ) (literals literals' : List PlainLiteral) (old new : List ℕ) → given' ≡ given → variables' ≡ variables
    → literals' ≡ literals → Notes (IsLoose given' variables' literals') old new → Notes (IsLoose given variables literals) old new
loose_at given given' variables variables' literals literals' old new e f g h =
    let one : Notes (IsLoose given variables' literals') old new = subst (λ v. Notes (IsLoose v variables' literals') old new) e h in
    let two : Notes (IsLoose given variables literals') old new = subst (λ v. Notes (IsLoose given v literals') old new) f one in
    subst (λ v. Notes (IsLoose given variables v) old new) g two
