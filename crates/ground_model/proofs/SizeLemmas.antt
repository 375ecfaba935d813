-- The sizes that a program's invariant gives.
use Rattle.std.proofs.Common.{◌≡◌, ◌<◌, ◌≤◌, ◌+◌, ◌^◌, inl, inr, ℕ, zero, suc, Bool, true, false, cond, ◌&&◌, ◌==◌, nat_lt, nat_le, ℤ, pos, negsuc, neg_ℤ, int_lt, int_le, unsigned_abs, List, [], ◌∷◌, ◌++◌, filter, length, get_or, All, refl, sym, ◌∙◌, subst, true≢false, eqb-true, arith}
use Rattle.std.specs.List.{AllByRecursion, list_all, list_any, range_with_len}
use Rattle.std.proofs.lemmas.Bool.Decides.{nat_tests}
use Rattle.std.proofs.lemmas.Int.{ints}
use Rattle.symbols.specs.declared.ends.Ends.{Ends}
use Rattle.definite_rules.specs.Rule.{DefiniteRule, IsBelow}
use Rattle.ground_model.specs.declared.linear.Linear.{Linear}
use Rattle.ground_model.specs.declared.linear.Place.{Place}
use Rattle.ground_model.specs.declared.linear.Relation.{Relation}
use Rattle.ground_model.specs.declared.rule.BodyLit.{BodyLit}
use Rattle.ground_model.specs.declared.rule.BodyLit.TheVariants as b
use Rattle.ground_model.specs.declared.rule.TheoryHead.{TheoryHead}
use Rattle.ground_model.specs.declared.rule.TheoryHead.TheVariants as t
use Rattle.ground_model.specs.declared.rule.ChoiceItem.{ChoiceItem}
use Rattle.ground_model.specs.declared.rule.GroundHead.{GroundHead}
use Rattle.ground_model.specs.declared.rule.GroundHead.TheVariants as h
use Rattle.ground_model.specs.declared.rule.GroundRule.{GroundRule}
use Rattle.ground_model.specs.Members.{IsMember}
use Rattle.ground_model.specs.Answers.{IsNumbered, IsWithin}
use Rattle.ground_model.specs.Sound
use Rattle.ground_model.specs.Sound.{is_number, is_small, most, are_sound_pairs, is_sound_linear, occurs, has_few_variables, first_places, is_sound_place, are_different, are_sound_places, is_sound_relation, are_sound_values, is_small_over, is_small_difference, is_sound_literal, is_sound_condition, is_sound_item, is_sound_theory, is_sound_head, is_sound_rule, are_sound_rules}
use Rattle.ground_model.specs.Sizes.{IsModest, IsSoundPair, IsSizedLinear, AreSizedPlaces, IsSizedRelation, IsReadable, IsReadableItem, IsReadableTheory, IsReadableHead, IsReadableRule}
use Rattle.ground_model.specs.World.{World}
use Rattle.ground_model.specs.Ways.{Way, choice_way, head_ways, ways}
use Rattle.ground_model.specs.Reduct.{positives, is_kept, definite_of, reduct}
use Rattle.ground_model.proofs.Bools.{and_elim, and_intro}
use Rattle.ground_model.proofs.MemberLemmas.{same_nat, any_member, all_member, property_member, property_from_members, property_map, member_map, map_member}
use Rattle.ground_model.proofs.WayLemmas.{flat_member}
use Rattle.ground_model.proofs.ReductLemmas.{filter_member}

-- NUMBERS

pub small_abs : (z : ℤ) → is_small z ≡ true → unsigned_abs z < 2 ^ 62
small_abs z e =
    let p = and_elim (int_lt (neg_ℤ (pos (2 ^ 62))) z) (int_lt z (pos (2 ^ 62))) e in
    by_parts z p.0 p.1
  where
    by_parts : (z : ℤ) → int_lt (negsuc 4611686018427387903) z ≡ true → int_lt z (pos 4611686018427387904) ≡ true → unsigned_abs z < 2 ^ 62
    by_parts (pos n) low high = grind (arith, nat_tests)
    by_parts (negsuc n) low high = grind (arith, nat_tests)

test_lt : (a b : ℕ) → nat_lt a b ≡ true → a < b
test_lt a b e = grind (arith, nat_tests)

test_le : (a b : ℕ) → nat_le a b ≡ true → a ≤ b
test_le a b e = grind (arith, nat_tests)

pub number_of : (last n : ℕ) → is_number last n ≡ true → IsNumbered last n
number_of last n e = let p = and_elim (nat_lt 0 n) (nat_le n last) e in record { above = test_lt 0 n p.0; known = test_le n last p.1 }

-- LINEAR TERMS

split_pair : (variables before : ℕ) (pair : ℕ × ℤ) (rest : List (ℕ × ℤ)) → are_sound_pairs variables before (pair ∷ rest) ≡ true
    → (before < pair.0) × (pair.0 ≤ variables) × (unsigned_abs pair.1 < 2 ^ 62) × (are_sound_pairs variables pair.0 rest ≡ true)
split_pair variables before pair rest e =
    let p = and_elim (nat_lt before pair.0 && nat_le pair.0 variables && is_small pair.1) (are_sound_pairs variables pair.0 rest) e in
    let q = and_elim (nat_lt before pair.0 && nat_le pair.0 variables) (is_small pair.1) p.0 in
    let r = and_elim (nat_lt before pair.0) (nat_le pair.0 variables) q.0 in
    (test_lt before pair.0 r.0, test_le pair.0 variables r.1, small_abs pair.1 q.1, p.1)

pub sound_pairs : (variables before : ℕ) (pairs : List (ℕ × ℤ)) → are_sound_pairs variables before pairs ≡ true → AllByRecursion (IsSoundPair variables) pairs
sound_pairs variables before [] e = tt
sound_pairs variables before (pair ∷ rest) e =
    let s = split_pair variables before pair rest e in
    let above = s.0 in
    (record { above = omega arith; known = s.1; small = s.2 }, sound_pairs variables pair.0 rest s.3)

-- as many variables of the range pass a test as ascending pairs name
pairs_counted : (test : ℕ → Bool) (n last before : ℕ) (pairs : List (ℕ × ℤ)) → last ≡ before + n → are_sound_pairs last before pairs ≡ true
    → AllByRecursion (λ pair. test pair.0 ≡ true) pairs → length pairs ≤ length (filter test (range_with_len (before + 1) n))
pairs_counted test n last before [] e s named = omega arith
pairs_counted test zero last before (pair ∷ rest) e s named =
    let p = split_pair last before pair rest s in let low = p.0 in let high = p.1 in absurd (omega arith)
pairs_counted test (suc n) last before (pair ∷ rest) e s named =
    by_first (pair.0 == before + 1) refl
    (λ same. pairs_counted test n last (before + 1) rest (omega arith) (subst (λ x. are_sound_pairs last x rest ≡ true) same (split_pair last before pair rest s).3) named.1)
    (λ more. pairs_counted test n last (before + 1) (pair ∷ rest) (omega arith) (raised more) named)
  where
    raised : before + 1 < pair.0 → are_sound_pairs last (before + 1) (pair ∷ rest) ≡ true
    raised more =
        let p = and_elim (nat_lt before pair.0 && nat_le pair.0 last && is_small pair.1) (are_sound_pairs last pair.0 rest) s in
        let q = and_elim (nat_lt before pair.0 && nat_le pair.0 last) (is_small pair.1) p.0 in
        let r = and_elim (nat_lt before pair.0) (nat_le pair.0 last) q.0 in
        and_intro (nat_lt (before + 1) pair.0 && nat_le pair.0 last && is_small pair.1) (are_sound_pairs last pair.0 rest)
        (and_intro (nat_lt (before + 1) pair.0 && nat_le pair.0 last) (is_small pair.1)
        (and_intro (nat_lt (before + 1) pair.0) (nat_le pair.0 last) (grind (arith, nat_tests)) r.1) q.1) p.1

    with_head : (t : Bool) (k : ℕ) → t ≡ true → k ≤ length (filter test (range_with_len (before + 1 + 1) n))
        → suc k ≤ length (cond t ((before + 1) ∷ filter test (range_with_len (before + 1 + 1) n)) (filter test (range_with_len (before + 1 + 1) n)))
    with_head true k q le = omega arith
    with_head false k q le = absurd (true≢false (sym q))

    past_head : (t : Bool) (k : ℕ) → k ≤ length (filter test (range_with_len (before + 1 + 1) n))
        → k ≤ length (cond t ((before + 1) ∷ filter test (range_with_len (before + 1 + 1) n)) (filter test (range_with_len (before + 1 + 1) n)))
    past_head true k le = omega arith
    past_head false k le = le

    by_first : (t : Bool) → (pair.0 == before + 1) ≡ t
        → (pair.0 ≡ before + 1 → length rest ≤ length (filter test (range_with_len (before + 1 + 1) n)))
        → (before + 1 < pair.0 → length (pair ∷ rest) ≤ length (filter test (range_with_len (before + 1 + 1) n)))
        → length (pair ∷ rest) ≤ length (filter test (range_with_len (before + 1) (suc n)))
    by_first true q here there =
        let same : pair.0 ≡ before + 1 = eqb-true pair.0 (before + 1) q in
        with_head (test (before + 1)) (length rest) (subst (λ x. test x ≡ true) same named.0) (here same)
    by_first false q here there =
        let p = split_pair last before pair rest s in
        let low = p.0 in
        let differs : (pair.0 ≡ before + 1) → ⊥ = λ same. true≢false (sym (same_nat pair.0 (before + 1) same) ∙ q) in
        let more : before + 1 < pair.0 = omega arith in
        past_head (test (before + 1)) (length (pair ∷ rest)) (there more)

pub sized_linear : (variables : ℕ) (linears : List Linear) (linear : Linear) → has_few_variables variables linears ≡ true → IsMember linears linear
    → is_sound_linear variables linear ≡ true → IsSizedLinear variables linear
sized_linear variables linears linear few m sound =
    let p = and_elim (are_sound_pairs variables 0 linear.pairs) (is_small linear.constant) sound in
    let bound = test_le (length (filter (occurs linears) (range_with_len 1 variables))) most few in
    let count = pairs_counted (occurs linears) variables variables 0 linear.pairs (omega arith) p.0 (property_from_members (λ pair. occurs linears pair.0 ≡ true) linear.pairs named) in
    record { pairs = sound_pairs variables 0 linear.pairs p.0; few = omega arith; small = small_abs linear.constant p.1 }
  where
    named : (pair : ℕ × ℤ) → IsMember linear.pairs pair → occurs linears pair.0 ≡ true
    named pair k =
        any_member (λ other. list_any (λ q. q.0 == pair.0) other.pairs) linears linear m
        (any_member (λ q. q.0 == pair.0) linear.pairs pair k (same_nat pair.0 pair.0 refl))

-- TUPLES

pub sized_places : (symbols variables : ℕ) (linears : List Linear) (places : List Place) → has_few_variables variables linears ≡ true
    → ((linear : Linear) → IsMember (first_places places) linear → IsMember linears linear) → list_all (is_sound_place symbols variables) places ≡ true
    → nat_le (length places) most ≡ true → AreSizedPlaces variables places
sized_places symbols variables linears places few all sound short = record {
  each = property_from_members (λ place. IsSizedLinear variables place.linear) places sized;
  few = test_le (length places) most short;
}
  where
    sized : (place : Place) → IsMember places place → IsSizedLinear variables place.linear
    sized place m =
        let s = all_member (is_sound_place symbols variables) places place sound m in
        let p = and_elim (is_sound_linear variables place.linear && int_le (pos 0) place.duration) (Sound.are_known symbols place.rest) s in
        let q = and_elim (is_sound_linear variables place.linear) (int_le (pos 0) place.duration) p.0 in
        sized_linear variables linears place.linear few (all place.linear (member_map (λ p. p.linear) places place m)) q.0

pub sized_tuples : (symbols variables : ℕ) (places : List Place) → are_sound_places symbols variables places ≡ true → AreSizedPlaces variables places
sized_tuples symbols variables places e =
    let p = and_elim (list_all (is_sound_place symbols variables) places && are_different places && nat_le (length places) most) (has_few_variables variables (first_places places)) e in
    let q = and_elim (list_all (is_sound_place symbols variables) places && are_different places) (nat_le (length places) most) p.0 in
    let r = and_elim (list_all (is_sound_place symbols variables) places) (are_different places) q.0 in
    sized_places symbols variables (first_places places) places p.1 (λ linear m. m) r.0 q.1

pub sized_relation : (symbols variables : ℕ) (relation : Relation) → is_sound_relation symbols variables relation ≡ true → IsSizedRelation variables relation
sized_relation symbols variables relation e =
    let p = and_elim (are_sound_places symbols variables relation.elements && is_sound_linear variables relation.right && has_few_variables variables (relation.right ∷ first_places relation.elements))
    (is_small_difference variables (first_places relation.elements) (relation.right ∷ [])) e in
    let q = and_elim (are_sound_places symbols variables relation.elements && is_sound_linear variables relation.right) (has_few_variables variables (relation.right ∷ first_places relation.elements)) p.0 in
    let r = and_elim (are_sound_places symbols variables relation.elements) (is_sound_linear variables relation.right) q.0 in
    record {
      elements = sized_tuples symbols variables relation.elements r.0;
      right = sized_linear variables (relation.right ∷ first_places relation.elements) relation.right q.1 (inl refl) r.1;
    }

-- RULES

module _ (symbols atoms variables : ℕ) (ends : Ends) where
  readable_literal : (literal : BodyLit) → is_sound_literal symbols atoms variables literal ≡ true → IsReadable atoms variables literal
  readable_literal (b.Atom a sign) e = number_of atoms a e
  readable_literal (b.Theory relation sign) e = sized_relation symbols variables relation e

  readable_condition : (literal : BodyLit) → is_sound_condition atoms literal ≡ true → IsReadable atoms variables literal
  readable_condition (b.Atom a sign) e = number_of atoms a e
  readable_condition (b.Theory relation sign) e = absurd (true≢false (sym e))

  readable_item : (item : ChoiceItem) → is_sound_item atoms item ≡ true → IsReadableItem atoms variables item
  readable_item item e =
      let p = and_elim (is_number atoms item.atom) (list_all (is_sound_condition atoms) item.condition) e in
      record {
        atom = number_of atoms item.atom p.0;
        condition =
            property_from_members (IsReadable atoms variables) item.condition
            (λ literal m. readable_condition literal (all_member (is_sound_condition atoms) item.condition literal p.1 m));
      }

  readable_theory : (theory : TheoryHead) → is_sound_theory symbols variables ends theory ≡ true → IsReadableTheory variables theory
  readable_theory (t.Relation relation) e = sized_relation symbols variables relation e
  readable_theory (t.Domain numbers x) e = number_of variables x (and_elim (is_number variables x) (nat_le (length numbers.intervals) most) e).0
  readable_theory (t.Distinct places) e =
      sized_tuples symbols variables places (and_elim (are_sound_places symbols variables places) (list_all (is_small_over ends) (first_places places)) e).0
  readable_theory (t.Disjoint places) e =
      sized_tuples symbols variables places (and_elim (are_sound_places symbols variables places) (list_all (is_small_over ends) (first_places places)) e).0

  readable_head : (head : GroundHead) → is_sound_head symbols atoms variables ends head ≡ true → IsReadableHead atoms variables head
  readable_head h.Nothing e = tt
  readable_head (h.Atom a) e = number_of atoms a e
  readable_head (h.Theory theory) e = readable_theory theory e
  readable_head (h.Choice choice) e =
      property_from_members (IsReadableItem atoms variables) choice.items (λ item m. readable_item item (all_member (is_sound_item atoms) choice.items item e m))

  readable_rule : (rule : GroundRule) → is_sound_rule symbols atoms variables ends rule ≡ true → IsReadableRule atoms variables rule
  readable_rule rule e =
      let p = and_elim (list_all (is_sound_literal symbols atoms variables) rule.body) (is_sound_head symbols atoms variables ends rule.head) e in
      record {
        body =
            property_from_members (IsReadable atoms variables) rule.body
            (λ literal m. readable_literal literal (all_member (is_sound_literal symbols atoms variables) rule.body literal p.0 m));
        head = readable_head rule.head p.1;
      }

  pub readable_rules : (rules : List GroundRule) → are_sound_rules symbols atoms variables ends rules ≡ true → AllByRecursion (IsReadableRule atoms variables) rules
  readable_rules rules e =
      property_from_members (IsReadableRule atoms variables) rules (λ rule m. readable_rule rule (all_member (is_sound_rule symbols atoms variables ends) rules rule e m))

-- VALUES

pub modest_values : (ends : Ends) (values : List ℤ) → AllByRecursion (IsWithin ends) values → AllByRecursion IsModest values
modest_values ends values within = property_map (IsWithin ends) IsModest modest values within
  where
    modest : (value : ℤ) → IsWithin ends value → unsigned_abs value < 2 ^ 30
    modest value w =
        let low = ends.low in let high = ends.high in let least = w.0 in let greatest = w.1 in
        omega (arith, ints)

-- THE REDUCT STAYS BELOW THE NUMBER OF ATOMS

member_at : {X : Type 0} (xs : List X) (k : ℕ) (d : X) → k < length xs → IsMember xs (get_or xs k d)
member_at [] k d below = absurd (omega arith)
member_at (x ∷ xs) zero d below = inl refl
member_at (x ∷ xs) (suc k) d below = inr (member_at xs k d (omega arith))

pub all_at : {X : Type 0} (P : X → Type 0) (xs : List X) → ((x : X) → IsMember xs x → P x) → All P xs
all_at P xs h k d below = h (get_or xs k d) (member_at xs k d below)

module _ (atoms variables : ℕ) where
  positives_below : (body : List BodyLit) → AllByRecursion (IsReadable atoms variables) body → (n : ℕ) → IsMember (positives body) n → n < atoms
  positives_below [] readable n m = absurd m
  positives_below (b.Atom a true ∷ body) readable n (inl e) =
      let above = readable.0.above in let known = readable.0.known in omega arith
  positives_below (b.Atom a true ∷ body) readable n (inr m) = positives_below body readable.1 n m
  positives_below (b.Atom a false ∷ body) readable n m = positives_below body readable.1 n m
  positives_below (b.Theory relation sign ∷ body) readable n m = positives_below body readable.1 n m

  append_property : {X : Type 0} (P : X → Type 0) (xs ys : List X) → AllByRecursion P xs → AllByRecursion P ys → AllByRecursion P (xs ++ ys)
  append_property P [] ys p q = q
  append_property P (x ∷ xs) ys p q = (p.0, append_property P xs ys p.1 q)

  pub way_below : (body : List BodyLit) → AllByRecursion (IsReadable atoms variables) body → (head : GroundHead) → IsReadableHead atoms variables head
      → (way : Way) → IsMember (head_ways body head) way → IsNumbered atoms way.atom × AllByRecursion (IsReadable atoms variables) way.body
  way_below body r h.Nothing s way m = absurd m
  way_below body r (h.Theory theory) s way m = absurd m
  way_below body r (h.Atom a) s way (inr m) = absurd m
  way_below body r (h.Atom a) s way (inl e) = subst (λ w. IsNumbered atoms w.atom × AllByRecursion (IsReadable atoms variables) w.body) (sym e) (s, r)
  way_below body r (h.Choice choice) s way m =
      let i = map_member (choice_way body) choice.items way m in
      let p = property_member (IsReadableItem atoms variables) choice.items i.0 s i.1 in
      subst (λ w. IsNumbered atoms w.atom × AllByRecursion (IsReadable atoms variables) w.body) (sym i.2)
      (p.atom, append_property (IsReadable atoms variables) body i.0.condition r p.condition)

  pub reduct_below : (rules : List GroundRule) (world : World) → AllByRecursion (IsReadableRule atoms variables) rules → All (IsBelow atoms) (reduct rules world)
  reduct_below rules world readable = all_at (IsBelow atoms) (reduct rules world) below
    where
      below : (rule : DefiniteRule) → IsMember (reduct rules world) rule → IsBelow atoms rule
      below rule m =
          let d = map_member definite_of (filter (is_kept world) (ways rules)) rule m in
          let w = filter_member (is_kept world) (ways rules) d.0 d.1 in
          let r = flat_member (λ rule. head_ways rule.body rule.head) rules d.0 w.0 in
          let p = property_member (IsReadableRule atoms variables) rules r.0 readable r.1 in
          let q = way_below r.0.body p.body r.0.head p.head d.0 r.2 in
          let above = q.0.above in let known = q.0.known in
          subst (IsBelow atoms) (sym d.2) (record {
            head = omega arith;
            body = all_at (λ n. n < atoms) (positives d.0.body) (positives_below d.0.body q.1);
          })

-- THE OBJECTIVE

pub sized_objective : (symbols variables : ℕ) (smaller larger : List Place) → Sound.is_sound_objective symbols variables smaller larger ≡ true
    → AreSizedPlaces variables smaller × AreSizedPlaces variables larger
sized_objective symbols variables smaller larger e =
    let p = and_elim (are_sound_places symbols variables smaller && are_sound_places symbols variables larger)
    (is_small_difference variables (first_places smaller) (first_places larger)) e in
    let q = and_elim (are_sound_places symbols variables smaller) (are_sound_places symbols variables larger) p.0 in
    (sized_tuples symbols variables smaller q.0, sized_tuples symbols variables larger q.1)
