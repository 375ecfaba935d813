-- Where bodies, supports and duties stand in a numbering.
use Rattle.std.proofs.Common.{◌≡◌, ℕ, zero, suc, ◌+◌, Bool, true, false, cond, ◌⊎◌, inl, inr, List, [], ◌∷◌, ◌++◌, map, length, refl, sym, ◌∙◌, ap, subst, Some, slice_get, option_map, flat_map, arith}
use Rattle.std.specs.List.{AllByRecursion}
use Rattle.std.proofs.lemmas.Option.{slice_get-map, slice_get_within}
use Rattle.std.proofs.lemmas.Bool.Decides.{nat_tests}
use Rattle.literals.specs.declared.lit.Lit.{Lit}
use Rattle.literals.specs.declared.lit.Lit.TheVariants.{Atom, Body, Constraint, AtMost, AtLeast}
use Rattle.literals.specs.Nogoods.{is_before, same_place, stronger, put_lit, joined, canonical}
use Rattle.literals.proofs.Puts.{all_joined}
use Rattle.ground_model.specs.declared.rule.BodyLit.{BodyLit}
use Rattle.ground_model.specs.declared.rule.ChoiceItem.{ChoiceItem}
use Rattle.ground_model.specs.declared.rule.GroundHead.{GroundHead}
use Rattle.ground_model.specs.declared.rule.GroundHead.TheVariants as h
use Rattle.ground_model.specs.declared.rule.GroundRule.{GroundRule}
use Rattle.ground_model.specs.Members.{IsMember}
use Rattle.ground_model.specs.Ways.{Way, choice_way, head_ways, ways}
use Rattle.ground_model.proofs.MemberLemmas.{property_member, property_from_members, map_member, member_map}
use Rattle.ground_model.proofs.WayLemmas.{flat_member, member_flat}
use Rattle.linear_normal.specs.declared.numbered.Support.{Support}
use Rattle.linear_normal.specs.Bodies.{element_body, selecting_body, is_bounded, head_bodies, bodies_in, Placed, placed}
use Rattle.linear_normal.specs.Numbering.{element_supports, head_supports}

-- SORTED LISTS

-- a literal that is no bound
abbrev pub IsPlain : Lit → Type 0
IsPlain (AtMost x k) = ⊥
IsPlain (AtLeast x k) = ⊥
IsPlain lit = Unit {0}

same_plain : (x l : Lit) → IsPlain x → IsPlain l → same_place x l ≡ true → x ≡ l
same_plain (Atom n true) (Atom m true) p q e = ap (λ k. Atom k true) (even n m e)
  where
    even : (n m : ℕ) → same_place (Atom n true) (Atom m true) ≡ true → n ≡ m
    even n m e = grind (arith, nat_tests, e)
same_plain (Atom n false) (Atom m false) p q e = ap (λ k. Atom k false) (odd n m e)
  where
    odd : (n m : ℕ) → same_place (Atom n false) (Atom m false) ≡ true → n ≡ m
    odd n m e = grind (arith, nat_tests, e)
same_plain (Body n true) (Body m true) p q e = ap (λ k. Body k true) (even n m e)
  where
    even : (n m : ℕ) → same_place (Body n true) (Body m true) ≡ true → n ≡ m
    even n m e = grind (arith, nat_tests, e)
same_plain (Body n false) (Body m false) p q e = ap (λ k. Body k false) (odd n m e)
  where
    odd : (n m : ℕ) → same_place (Body n false) (Body m false) ≡ true → n ≡ m
    odd n m e = grind (arith, nat_tests, e)
same_plain (Constraint n true) (Constraint m true) p q e = ap (λ k. Constraint k true) (even n m e)
  where
    even : (n m : ℕ) → same_place (Constraint n true) (Constraint m true) ≡ true → n ≡ m
    even n m e = grind (arith, nat_tests, e)
same_plain (Constraint n false) (Constraint m false) p q e = ap (λ k. Constraint k false) (odd n m e)
  where
    odd : (n m : ℕ) → same_place (Constraint n false) (Constraint m false) ≡ true → n ≡ m
    odd n m e = grind (arith, nat_tests, e)
same_plain (AtMost x k) l p q e = absurd p
same_plain (AtLeast x k) l p q e = absurd p
same_plain x (AtMost y k) p q e = absurd q
same_plain x (AtLeast y k) p q e = absurd q
same_plain x l p q e = absurd (grind (arith, nat_tests, e))

stronger_same : (x l : Lit) → x ≡ l → stronger x l ≡ l
stronger_same x l e = subst (λ (y : Lit). stronger y l ≡ l) (sym e) (cond_same (Rattle.literals.specs.Lits.implies_lit l l) l)
  where
    cond_same : (b : Bool) (y : Lit) → cond b y y ≡ y
    cond_same true y = refl
    cond_same false y = refl

put_keeps : (xs : List Lit) (l m : Lit) → AllByRecursion IsPlain xs → IsPlain l → IsMember xs m ⊎ (m ≡ l) → IsMember (put_lit xs l) m
put_keeps [] l m ps p (inl k) = absurd k
put_keeps [] l m ps p (inr e) = inl e
put_keeps (x ∷ xs) l m ps p k = go (is_before x l) (same_place x l) refl k (put_keeps xs l m ps.1 p)
  where
    go : (b s : Bool) → same_place x l ≡ s → IsMember (x ∷ xs) m ⊎ (m ≡ l) → (IsMember xs m ⊎ (m ≡ l) → IsMember (put_lit xs l) m)
        → IsMember (cond b (x ∷ put_lit xs l) (cond s (stronger x l ∷ xs) (l ∷ x ∷ xs))) m
    go true s e (inl (inl f)) rec = inl f
    go true s e (inl (inr f)) rec = inr (rec (inl f))
    go true s e (inr f) rec = inr (rec (inr f))
    go false true e (inl (inl f)) rec = inl (f ∙ same_plain x l ps.0 p e ∙ sym (stronger_same x l (same_plain x l ps.0 p e)))
    go false true e (inl (inr f)) rec = inr f
    go false true e (inr f) rec = inl (f ∙ sym (stronger_same x l (same_plain x l ps.0 p e)))
    go false false e (inl f) rec = inr f
    go false false e (inr f) rec = inl f

put_plain : (xs : List Lit) (l : Lit) → AllByRecursion IsPlain xs → IsPlain l → AllByRecursion IsPlain (put_lit xs l)
put_plain xs l ps p = Rattle.literals.proofs.Puts.all_put IsPlain xs l ps p

joined_keeps : (xs ys : List Lit) (m : Lit) → AllByRecursion IsPlain xs → AllByRecursion IsPlain ys → IsMember xs m ⊎ IsMember ys m → IsMember (joined xs ys) m
joined_keeps xs [] m ps qs (inl k) = k
joined_keeps xs [] m ps qs (inr k) = absurd k
joined_keeps xs (y ∷ ys) m ps qs (inl k) = joined_keeps (put_lit xs y) ys m (put_plain xs y ps qs.0) qs.1 (inl (put_keeps xs y m ps qs.0 (inl k)))
joined_keeps xs (y ∷ ys) m ps qs (inr (inl e)) = joined_keeps (put_lit xs y) ys m (put_plain xs y ps qs.0) qs.1 (inl (put_keeps xs y m ps qs.0 (inr e)))
joined_keeps xs (y ∷ ys) m ps qs (inr (inr k)) = joined_keeps (put_lit xs y) ys m (put_plain xs y ps qs.0) qs.1 (inr k)

-- the sorted list has the literals
pub canonical_has : (xs : List Lit) (m : Lit) → AllByRecursion IsPlain xs → IsMember xs m → IsMember (canonical xs) m
canonical_has xs m ps k = joined_keeps [] xs m tt ps (inr k)

-- and no others
pub canonical_only : (xs : List Lit) (m : Lit) → IsMember (canonical xs) m → IsMember xs m
canonical_only xs m k =
    property_member (IsMember xs) (canonical xs) m (all_joined (IsMember xs) [] xs tt (property_from_members (IsMember xs) xs (λ x n. n))) k

-- PLACES

pub slice_get_left : {X : Type 0} (xs ys : List X) (k : ℕ) (x : X) → slice_get xs k ≡ Some x → slice_get (xs ++ ys) k ≡ Some x
slice_get_left {X} [] ys k x e = absurd (omega (arith, slice_get_within {A = X} [] k x e))
slice_get_left (y ∷ xs) ys zero x e = e
slice_get_left (y ∷ xs) ys (suc k) x e = slice_get_left xs ys k x e

pub slice_get_right : {X : Type 0} (xs ys : List X) (k : ℕ) (x : X) → slice_get ys k ≡ Some x → slice_get (xs ++ ys) (length xs + k) ≡ Some x
slice_get_right [] ys k x e = subst (λ n. slice_get ys n ≡ Some x) (zero_plus k) e
  where
    zero_plus : (k : ℕ) → k ≡ 0 + k
    zero_plus k = omega arith
slice_get_right {X} (y ∷ xs) ys k x e = subst (λ n. slice_get (y ∷ (xs ++ ys)) n ≡ Some x) (shift k) (slice_get_right xs ys k x e)
  where
    shift : (k : ℕ) → suc (length xs + k) ≡ suc (length xs) + k
    shift k = omega arith

pub slice_get_mapped : {X Y : Type 0} (f : X → Y) (xs : List X) (k : ℕ) (x : X) → slice_get xs k ≡ Some x → slice_get (map f xs) k ≡ Some (f x)
slice_get_mapped f xs k x e = slice_get-map f xs k ∙ ap (option_map f) e

pub member_place : {X : Type 0} (xs : List X) (x : X) → IsMember xs x → (k : ℕ) × (slice_get xs k ≡ Some x)
member_place [] x m = absurd m
member_place (y ∷ xs) x (inl e) = (0, ap Some (sym e))
member_place (y ∷ xs) x (inr m) = let r = member_place xs x m in (suc r.0, r.1)

pub place_member : {X : Type 0} (xs : List X) (k : ℕ) (x : X) → slice_get xs k ≡ Some x → IsMember xs x
place_member {X} [] k x e = absurd (omega (arith, slice_get_within {A = X} [] k x e))
place_member (y ∷ xs) zero x e = let same : y ≡ x = cc in inl (sym same)
place_member (y ∷ xs) (suc k) x e = inr (place_member xs k x e)

-- the further bodies of a placed rule have the next numbers
pub placed_body : (start : ℕ) (rules : List GroundRule) (at : Placed) → IsMember (placed start rules) at → (k : ℕ) (body : List BodyLit) → slice_get (bodies_in at.rule) k ≡ Some body
    → (m : ℕ) × (at.first + k ≡ start + m) × (slice_get (flat_map bodies_in rules) m ≡ Some body)
placed_body start [] at member k body e = absurd member
placed_body start (rule ∷ rules) at (inl same) k body e =
    (k, ap (λ p. p.first + k) same, slice_get_left (bodies_in rule) (flat_map bodies_in rules) k body (subst (λ (p : Placed). slice_get (bodies_in p.rule) k ≡ Some body) same e))
placed_body start (rule ∷ rules) at (inr later) k body e =
    let r = placed_body (start + length (bodies_in rule)) rules at later k body e in
    let f = r.1 in
    (length (bodies_in rule) + r.0, omega arith, slice_get_right (bodies_in rule) (flat_map bodies_in rules) r.0 body r.2)

-- a placed rule is one of the rules, and each rule is placed
pub placed_rule : (start : ℕ) (rules : List GroundRule) (at : Placed) → IsMember (placed start rules) at → IsMember rules at.rule
placed_rule start [] at m = absurd m
placed_rule start (rule ∷ rules) at (inl e) = inl (ap (λ p. p.rule) e)
placed_rule start (rule ∷ rules) at (inr m) = inr (placed_rule (start + length (bodies_in rule)) rules at m)

pub rule_placed : (start : ℕ) (rules : List GroundRule) (rule : GroundRule) → IsMember rules rule → (at : Placed) × IsMember (placed start rules) at × (at.rule ≡ rule)
rule_placed start [] rule m = absurd m
rule_placed start (r ∷ rules) rule (inl e) = (record { first = start; rule = r }, inl refl, sym e)
rule_placed start (r ∷ rules) rule (inr m) = let p = rule_placed (start + length (bodies_in r)) rules rule m in (p.0, inr p.1, p.2)

-- SUPPORTS ARE WAYS

-- the support is of the way, whose body is the k-th of the placed rule
pub record IsSupportOf (at : Placed) (way : Way) (support : Support) : Type 0 where
  pub place : ℕ
  pub atom : support.atom ≡ way.atom
  pub body : support.body ≡ at.first + place
  pub same : slice_get (bodies_in at.rule) place ≡ Some way.body

element_support : (n : ℕ) (items : List ChoiceItem) (support : Support) → IsMember (element_supports n items) support
    → (j : ℕ) × (item : ChoiceItem) × (slice_get items j ≡ Some item) × (support.atom ≡ item.atom) × (support.body ≡ n + j)
element_support n [] support m = absurd m
element_support n (item ∷ items) support (inl e) = (0, item, refl, ap (λ s. s.atom) e, ap (λ s. s.body) e ∙ plus_zero n)
  where
    plus_zero : (n : ℕ) → n ≡ n + 0
    plus_zero n = omega arith
element_support n (item ∷ items) support (inr m) =
    let r = element_support (n + 1) items support m in
    let f = r.4 in
    (suc r.0, r.1, r.2, r.3, omega arith)

support_element : (n : ℕ) (items : List ChoiceItem) (j : ℕ) (item : ChoiceItem) → slice_get items j ≡ Some item
    → (support : Support) × IsMember (element_supports n items) support × (support.atom ≡ item.atom) × (support.body ≡ n + j)
support_element n [] j item e = absurd (omega (arith, slice_get_within {A = ChoiceItem} [] j item e))
support_element n (i ∷ items) zero item e =
    let same : i ≡ item = cc in
    (record { atom = i.atom; body = n }, inl refl, ap (λ x. x.atom) same, plus_zero n)
  where
    plus_zero : (n : ℕ) → n ≡ n + 0
    plus_zero n = omega arith
support_element n (i ∷ items) (suc j) item e =
    let r = support_element (n + 1) items j item e in
    let f = r.3 in
    (r.0, inr r.1, r.2, omega arith)

element_body_at : (body : List BodyLit) (head : GroundHead) (rest : List (List BodyLit)) (items : List ChoiceItem) (j : ℕ) (item : ChoiceItem) → slice_get items j ≡ Some item
    → slice_get (body ∷ (map (element_body body) items ++ rest)) (suc j) ≡ Some (choice_way body item).body
element_body_at body head rest items j item e =
    slice_get_left (map (element_body body) items) rest j (body ++ item.condition) (slice_get_mapped (element_body body) items j item e)

head_support : (at : Placed) (head : GroundHead) → at.rule.head ≡ head → (support : Support) → IsMember (head_supports at.first head) support
    → (way : Way) × IsMember (head_ways at.rule.body head) way × IsSupportOf at way support
head_support at h.Nothing e support m = absurd m
head_support at (h.Theory theory) e support m = absurd m
head_support at (h.Atom a) e support (inl s) =
    let way : Way = record { atom = a; body = at.rule.body; is_choice = false } in
    (way, inl refl, record { place = 0; atom = ap (λ x. x.atom) s; body = ap (λ x. x.body) s ∙ plus_zero at.first; same = refl })
  where
    plus_zero : (n : ℕ) → n ≡ n + 0
    plus_zero n = omega arith
head_support at (h.Atom a) e support (inr m) = absurd m
head_support at (h.Choice choice) e support m =
    let r = element_support (at.first + 1) choice.items support m in
    let f = r.4 in (
      choice_way at.rule.body r.1,
      member_map (choice_way at.rule.body) choice.items r.1 (place_member choice.items r.0 r.1 r.2),
      record {
        place = suc r.0;
        atom = r.3;
        body = omega arith;
        same = subst (λ (head : GroundHead). slice_get (at.rule.body ∷ head_bodies at.rule.body head) (suc r.0) ≡ Some (choice_way at.rule.body r.1).body) (sym e)
            (element_body_at at.rule.body (h.Choice choice) (cond (is_bounded choice) (map (selecting_body at.rule.body) choice.items) []) choice.items r.0 r.1 r.2);
      },
    )

way_support : (at : Placed) (head : GroundHead) → at.rule.head ≡ head → (way : Way) → IsMember (head_ways at.rule.body head) way
    → (support : Support) × IsMember (head_supports at.first head) support × IsSupportOf at way support
way_support at h.Nothing e way m = absurd m
way_support at (h.Theory theory) e way m = absurd m
way_support at (h.Atom a) e way (inl s) =
    (record { atom = a; body = at.first }, inl refl, record { place = 0; atom = sym (ap (λ x. x.atom) s); body = plus_zero at.first; same = ap Some (sym (ap (λ x. x.body) s)) })
  where
    plus_zero : (n : ℕ) → n ≡ n + 0
    plus_zero n = omega arith
way_support at (h.Atom a) e way (inr m) = absurd m
way_support at (h.Choice choice) e way m =
    let i = map_member (choice_way at.rule.body) choice.items way m in
    let p = member_place choice.items i.0 i.1 in
    let r = support_element (at.first + 1) choice.items p.0 i.0 p.1 in
    let f = r.3 in (
      r.0,
      r.1,
      record {
        place = suc p.0;
        atom = r.2 ∙ sym (ap (λ x. x.atom) i.2);
        body = omega arith;
        same = subst (λ (head : GroundHead). slice_get (at.rule.body ∷ head_bodies at.rule.body head) (suc p.0) ≡ Some way.body) (sym e)
            (element_body_at at.rule.body (h.Choice choice) (cond (is_bounded choice) (map (selecting_body at.rule.body) choice.items) []) choice.items p.0 i.0 p.1
            ∙ ap Some (sym (ap (λ x. x.body) i.2)));
      },
    )

-- the supports of placed rules
abbrev pub supports_from : ℕ → List GroundRule → List Support
supports_from start rules = flat_map (λ at. head_supports at.first at.rule.head) (placed start rules)

pub support_way : (start : ℕ) (rules : List GroundRule) (support : Support) → IsMember (supports_from start rules) support
    → (at : Placed) × IsMember (placed start rules) at × (way : Way) × IsMember (ways rules) way × IsSupportOf at way support
support_way start rules support m =
    let f = flat_member (λ at. head_supports at.first at.rule.head) (placed start rules) support m in
    let w = head_support f.0 f.0.rule.head refl support f.2 in
    (f.0, f.1, w.0, member_flat (λ rule. head_ways rule.body rule.head) rules f.0.rule w.0 (placed_rule start rules f.0 f.1) w.1, w.2)

pub way_has_support : (start : ℕ) (rules : List GroundRule) (way : Way) → IsMember (ways rules) way
    → (at : Placed) × IsMember (placed start rules) at × (support : Support) × IsMember (supports_from start rules) support × IsSupportOf at way support
way_has_support start rules way m =
    let f = flat_member (λ rule. head_ways rule.body rule.head) rules way m in
    let p = rule_placed start rules f.0 f.1 in
    let w = way_support p.0 p.0.rule.head refl way (subst (λ (rule : GroundRule). IsMember (head_ways rule.body rule.head) way) (sym p.2) f.2) in
    (p.0, p.1, w.0, member_flat (λ at. head_supports at.first at.rule.head) (placed start rules) p.0 w.0 p.1 w.1, w.2)
