-- What is put in order has the same literals.
use Rattle.std.proofs.Common.{◌≡◌, ◌⊎◌, inl, inr, ℕ, List, [], ◌∷◌, ◌++◌, map, refl, sym, ap, ◌∙◌, subst}
use Rattle.std.specs.List.{AllZip, flat_map}
use Rattle.ground_model.specs.Members.{IsMember}
use Rattle.program_meaning.specs.Read.{PlainLiteral, ReadElement, ReadTheory, ReadLiteral, ReadPlain, ReadTold, ReadChoice, ReadHead, ReadNothing, ReadAtom, ReadDuty, ReadChoose, ReadRule, plains}
use Rattle.program_meaning.specs.Safety.{Binds, IsReady}
use Rattle.safety_meaning.specs.Ordered.{IsPositive, TakesFirst, Next, TakesReady, TakesAtom, AreOrdered, told_of, IsOrderedCondition, IsOrderedElement, IsOrderedTheory, IsOrderedTold, IsOrderedChoice, IsOrderedHead}
use Rattle.safety_meaning.specs.Reordered.{HaveSameMembers, IsSameElement, IsSameTheory, IsSameLiteral, IsSameChoice, IsSameHead}
use Rattle.safety_meaning.specs.Laws.{OrderedLaw}
use Rattle.safety_meaning.proofs.Lists.{member_append, member_left, member_right}

into_middle : {X : Type 0} (front behind : List X) (x y : X) → IsMember (x ∷ (front ++ behind)) y → IsMember (front ++ x ∷ behind) y
into_middle front behind x y m = elim m [
  | inl e ↦ member_right front (x ∷ behind) y (inl e)
  | inr k ↦ elim (member_append front behind y k) [ inl a ↦ member_left front (x ∷ behind) y a | inr b ↦ member_right front (x ∷ behind) y (inr b) ]
]

from_middle : {X : Type 0} (front behind : List X) (x y : X) → IsMember (front ++ x ∷ behind) y → IsMember (x ∷ (front ++ behind)) y
from_middle front behind x y m = elim (member_append front (x ∷ behind) y m) [
  | inl a ↦ inr (member_left front behind y a)
  | inr b ↦ elim b [ inl e ↦ inl e | inr k ↦ inr (member_right front behind y k) ]
]

taken_same : {X : Type 0} (P : X → Type 0) (xs : List X) (x : X) (left rest : List X) → TakesFirst P xs x left → HaveSameMembers left rest → HaveSameMembers xs (x ∷ rest)
taken_same P xs x left rest h same = record {
  forth = λ y m. elim (from_middle h.front h.behind x y (subst (λ ys. IsMember ys y) h.whole m)) [
    | inl e ↦ inl e
    | inr k ↦ inr (same.forth y (subst (λ ys. IsMember ys y) (sym h.rest) k))
  ];
  back = λ y m. subst (λ ys. IsMember ys y) (sym h.whole) (into_middle h.front h.behind x y (elim m [
    | inl e ↦ inl e
    | inr k ↦ inr (subst (λ ys. IsMember ys y) h.rest (same.back y k))
  ]));
}

next_same : (P : ℕ → Type 0) (literals : List PlainLiteral) (x : PlainLiteral) (left rest : List PlainLiteral) → Next P literals x left → HaveSameMembers left rest → HaveSameMembers literals (x ∷ rest)
next_same P literals x left rest (TakesReady h) same = taken_same (IsReady P) literals x left rest h same
next_same P literals x left rest (TakesAtom none h) same = taken_same IsPositive literals x left rest h same

ordered_same : (ordered : List PlainLiteral) (P : ℕ → Type 0) (literals : List PlainLiteral) → AreOrdered P literals ordered → HaveSameMembers literals ordered
ordered_same [] P literals h = record { forth = λ y m. subst (λ ys. IsMember ys y) h m; back = λ y m. absurd m }
ordered_same (x ∷ rest) P literals h = next_same P literals x h.0 rest h.1 (ordered_same rest (λ n. P n ⊎ Binds P x n) h.0 h.2)

pub zip_mapped : {A B : Type 0} (R S : A → B → Type 0) (xs : List A) (ys : List B) → ((x : A) (y : B) → R x y → S x y) → AllZip R xs ys → AllZip S xs ys
zip_mapped R S [] [] f h = tt
zip_mapped R S [] (y ∷ ys) f h = absurd h
zip_mapped R S (x ∷ xs) [] f h = absurd h
zip_mapped R S (x ∷ xs) (y ∷ ys) f h = (f x y h.0, zip_mapped R S xs ys f h.1)

module _ (rule : ReadRule) where
  condition_same : (one ordered : List PlainLiteral) → IsOrderedCondition rule one ordered → HaveSameMembers one ordered
  condition_same one ordered h = ordered_same ordered _ one h

  element_same : (one ordered : ReadElement) → IsOrderedElement rule one ordered → IsSameElement one ordered
  element_same one ordered h = record { first = h.first; duration = h.duration; rest = h.rest; condition = condition_same one.condition ordered.condition h.condition }

  theory_same : (one ordered : ReadTheory) → IsOrderedTheory rule one ordered → IsSameTheory one ordered
  theory_same one ordered h = record { name = h.name; elements = zip_mapped (IsOrderedElement rule) IsSameElement one.elements ordered.elements element_same h.elements; guard = h.guard }

  told_same : (one ordered : ReadLiteral) → IsOrderedTold rule one ordered → IsSameLiteral one ordered
  told_same (ReadTold one sign) (ReadTold ordered facing) h = (theory_same one ordered h.0, h.1)
  told_same one ordered h = absurd h

  choice_same : (one ordered : ReadChoice) → IsOrderedChoice rule one ordered → IsSameChoice one ordered
  choice_same one ordered h = record { atom = h.atom; condition = condition_same one.condition ordered.condition h.condition }

  head_same : (one ordered : ReadHead) → IsOrderedHead rule one ordered → IsSameHead one ordered
  head_same ReadNothing ReadNothing h = tt
  head_same (ReadAtom one) (ReadAtom ordered) h = h
  head_same (ReadDuty one) (ReadDuty ordered) h = theory_same one ordered h
  head_same (ReadChoose left elements right) (ReadChoose low others high) h =
      (h.0, zip_mapped (IsOrderedChoice rule) IsSameChoice elements others choice_same h.1, h.2)
  head_same one ordered h = absurd h

  all_told : (xs told : List ReadLiteral) → AllZip (IsOrderedTold rule) xs told → (plains told ≡ []) × (flat_map told_of told ≡ told)
  all_told [] [] h = (refl, refl)
  all_told [] (y ∷ ys) h = absurd h
  all_told (x ∷ xs) [] h = absurd h
  all_told (ReadTold one sign ∷ xs) (ReadTold ordered facing ∷ ys) h = let k = all_told xs ys h.1 in (k.0, ap (λ rest. ReadTold ordered facing ∷ rest) k.1)
  all_told (x ∷ xs) (y ∷ ys) h = absurd h.0

plains_in : (plain : List PlainLiteral) (told : List ReadLiteral) → plains (map (λ literal. ReadPlain literal) plain ++ told) ≡ plain ++ plains told
plains_in [] told = refl
plains_in (x ∷ rest) told = ap (λ literals. x ∷ literals) (plains_in rest told)

told_in_it : (plain : List PlainLiteral) (told : List ReadLiteral) → flat_map told_of (map (λ literal. ReadPlain literal) plain ++ told) ≡ flat_map told_of told
told_in_it [] told = refl
told_in_it (x ∷ rest) told = told_in_it rest told

append_none : {X : Type 0} (xs : List X) → xs ++ [] ≡ xs
append_none [] = refl
append_none (x ∷ xs) = ap (λ rest. x ∷ rest) (append_none xs)

pub ordered_law : OrderedLaw
ordered_law rule ordered h =
    let told = all_told rule (flat_map told_of rule.body) h.told h.each in
    let plain : plains ordered.body ≡ h.plain =
    ap plains h.whole ∙ plains_in h.plain h.told ∙ ap (λ rest. h.plain ++ rest) told.0 ∙ append_none h.plain in
    let behind : flat_map told_of ordered.body ≡ h.told = ap (flat_map told_of) h.whole ∙ told_in_it h.plain h.told ∙ told.1 in
    record {
      order = h.order;
      head = head_same rule rule.head ordered.head h.head;
      plain = subst (HaveSameMembers (plains rule.body)) (sym plain) (ordered_same h.plain (λ n. ⊥) (plains rule.body) h.in_order);
      told = subst (AllZip IsSameLiteral (flat_map told_of rule.body)) (sym behind)
          (zip_mapped (IsOrderedTold rule) IsSameLiteral (flat_map told_of rule.body) h.told (told_same rule) h.each);
    }
