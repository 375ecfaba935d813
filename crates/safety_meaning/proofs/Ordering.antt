-- The order of a body is one.
use Rattle.std.proofs.Common.{◌≡◌, ◌⊎◌, ℕ, true, List, [], ◌∷◌, ◌++◌, map, refl, sym, ap, ◌∙◌, subst}
use Rattle.std.specs.List.{flat_map}
use Rattle.program_meaning.specs.Read.{PlainLiteral, ReadPlain, plains}
use Rattle.program_meaning.specs.Variables.{is_global}
use Rattle.program_meaning.specs.Safety.{Binds, IsReady}
use Rattle.safety_meaning.specs.Ordered.{NoneIs, IsPositive, TakesFirst, Next, TakesReady, TakesAtom, AreOrdered, told_of}
use Rattle.safety_meaning.specs.Laws.{OneBodyLaw, OneConditionLaw}

split_one : {X : Type 0} (P : X → Type 0) (front other behind further : List X) (x y : X) → front ++ x ∷ behind ≡ other ++ y ∷ further
    → NoneIs P front → P x → NoneIs P other → P y → (x ≡ y) × (front ++ behind ≡ other ++ further)
split_one P [] [] behind further x y e none px nope py = let a : x ≡ y = cc in let b : behind ≡ further = cc in (a, b)
split_one P [] (z ∷ other) behind further x y e none px nope py = let a : x ≡ z = cc in absurd (nope.0 (subst P a px))
split_one P (z ∷ front) [] behind further x y e none px nope py = let a : y ≡ z = cc in absurd (none.0 (subst P a py))
split_one P (z ∷ front) (w ∷ other) behind further x y e none px nope py =
    let a : z ≡ w = cc in
    let b : front ++ x ∷ behind ≡ other ++ y ∷ further = cc in
    let s = split_one P front other behind further x y b none.1 px nope.1 py in
    (s.0, λ i. a i ∷ s.1 i)

takes_one : {X : Type 0} (P : X → Type 0) (xs : List X) (x y : X) (left more : List X) → TakesFirst P xs x left → TakesFirst P xs y more → (x ≡ y) × (left ≡ more)
takes_one P xs x y left more h k =
    let s = split_one P h.front k.front h.behind k.behind x y (sym h.whole ∙ k.whole) h.before h.is k.before k.is in
    (s.0, h.rest ∙ s.1 ∙ sym k.rest)

none_here : {X : Type 0} (P : X → Type 0) (front behind : List X) (x : X) → NoneIs P (front ++ x ∷ behind) → P x → ⊥
none_here P [] behind x none px = none.0 px
none_here P (z ∷ front) behind x none px = none_here P front behind x none.1 px

none_taken : {X : Type 0} (P : X → Type 0) (xs : List X) (x : X) (left : List X) → NoneIs P xs → TakesFirst P xs x left → ⊥
none_taken P xs x left none h = none_here P h.front h.behind x (subst (NoneIs P) h.whole none) h.is

next_one : (P : ℕ → Type 0) (literals : List PlainLiteral) (x y : PlainLiteral) (left more : List PlainLiteral) → Next P literals x left → Next P literals y more → (x ≡ y) × (left ≡ more)
next_one P literals x y left more (TakesReady h) (TakesReady k) = takes_one (IsReady P) literals x y left more h k
next_one P literals x y left more (TakesReady h) (TakesAtom none k) = absurd (none_taken (IsReady P) literals x left none h)
next_one P literals x y left more (TakesAtom none h) (TakesReady k) = absurd (none_taken (IsReady P) literals y more none k)
next_one P literals x y left more (TakesAtom none h) (TakesAtom nope k) = takes_one IsPositive literals x y left more h k

never_empty : {X : Type 0} (front behind : List X) (x : X) → [] ≡ front ++ x ∷ behind → ⊥
never_empty [] behind x e = absurd cc
never_empty (z ∷ front) behind x e = absurd cc

takes_some : {X : Type 0} (P : X → Type 0) (xs : List X) (x : X) (left : List X) → xs ≡ [] → TakesFirst P xs x left → ⊥
takes_some P xs x left e h = never_empty h.front h.behind x (sym e ∙ h.whole)

next_some : (P : ℕ → Type 0) (literals : List PlainLiteral) (x : PlainLiteral) (left : List PlainLiteral) → literals ≡ [] → Next P literals x left → ⊥
next_some P literals x left e (TakesReady h) = takes_some (IsReady P) literals x left e h
next_some P literals x left e (TakesAtom none h) = takes_some IsPositive literals x left e h

ordered_one : (one other : List PlainLiteral) (P : ℕ → Type 0) (literals : List PlainLiteral) → AreOrdered P literals one → AreOrdered P literals other → one ≡ other
ordered_one [] [] P literals h k = refl
ordered_one [] (y ∷ ys) P literals h k = absurd (next_some P literals y k.0 h k.1)
ordered_one (x ∷ xs) [] P literals h k = absurd (next_some P literals x h.0 k h.1)
ordered_one (x ∷ xs) (y ∷ ys) P literals h k =
    let e = next_one P literals x y h.0 k.0 h.1 k.1 in
    let moved : AreOrdered (λ n. P n ⊎ Binds P x n) k.0 ys =
    subst (λ left. AreOrdered (λ n. P n ⊎ Binds P x n) k.0 ys) e.1 (subst (λ z. AreOrdered (λ n. P n ⊎ Binds P z n) k.0 ys) (sym e.0) k.2) in
    let from : AreOrdered (λ n. P n ⊎ Binds P x n) k.0 xs = subst (λ left. AreOrdered (λ n. P n ⊎ Binds P x n) left xs) e.1 h.2 in
    let rest = ordered_one xs ys (λ n. P n ⊎ Binds P x n) k.0 from moved in
    λ i. e.0 i ∷ rest i

pub one_body_law : OneBodyLaw
one_body_law body one other h k =
    h.whole ∙ ap (λ plain. map (λ literal. ReadPlain literal) plain ++ flat_map told_of body) (ordered_one h.plain k.plain (λ n. ⊥) (plains body) h.in_order k.in_order) ∙ sym k.whole

pub one_condition_law : OneConditionLaw
one_condition_law rule condition one other h k = ordered_one one other (λ n. is_global rule n ≡ true) condition h k
