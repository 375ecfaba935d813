-- Rules over symbols and the same rules over numbers have the same models.
use Rattle.std.proofs.Common.{◌≡◌, inl, inr, ℕ, Bool, true, false, not, ◌&&◌, ℤ, ◌+ℤ◌, ◌*ℤ◌, List, [], ◌∷◌, ◌++◌, map, Option, None, Some, refl, sym, ◌∙◌, ap, ap₂, subst}
use Rattle.std.specs.List.{AllByRecursion, list_all}
use Rattle.std.specs.Ordering.{int_eq}
use Rattle.symbols.specs.Symbol.{Symbol}
use Rattle.ground_model.specs.Intervals.{lies_in}
use Rattle.ground_model.specs.Members.{IsMember}
use Rattle.ground_model.specs.Rules.{AtomLiteral, AtomHead, signed}
use Rattle.ground_model.specs.Derivable.{Holds}
use Rattle.ground_model.specs.Rule.{LinearOf, PlaceOf, RelationOf, TheoryOf, RelationHead, DomainHead, DistinctHead, DisjointHead, LitOf, AtomLit, RelationLit, ItemOf, HeadOf, NothingHead, GivesHead, HoldsHead, ChoosesHead, RuleOf}
use Rattle.ground_model.specs.Truth.{compares, pairs_value, value_of, sum_of, relation_truth, all_pairs, differ, are_apart, share, theory_truth}
use Rattle.ground_model.specs.Model.{read, read_head, items_of, rules_with, IsModel}
use Rattle.ground_model.proofs.MemberLemmas.{property_member}
use Rattle.program_meaning.specs.Canonical.{number_of, variable_number, linear_numbered, place_numbered, relation_numbered, theory_numbered, literal_at, body_numbered, item_at, item_numbered, head_at, head_numbered, rule_numbered}
use Rattle.program_meaning.proofs.Lists.{flat_to, flat_from}
use Rattle.program_meaning.proofs.Numbers.{number_found, number_one, not_some, some_same}
use Rattle.program_meaning.proofs.Transfer.{Carries, HeadFor, Twins, turned, stable_up}

-- the symbol has the number
abbrev pub Stands : List Symbol → Symbol → ℕ → Type 0
Stands atoms a n = number_of atoms a ≡ Some n

-- the variables of a form are listed
abbrev pub LinearKnown : List Symbol → LinearOf Symbol → Type 0
LinearKnown variables linear = AllByRecursion (λ pair. IsMember variables pair.0) linear.pairs

abbrev pub PlacesKnown : List Symbol → List (PlaceOf Symbol) → Type 0
PlacesKnown variables places = AllByRecursion (λ place. LinearKnown variables place.linear) places

pub record RelationKnown (variables : List Symbol) (relation : RelationOf Symbol) : Type 0 where
  pub elements : PlacesKnown variables relation.elements
  pub right : LinearKnown variables relation.right

abbrev pub TheoryKnown : List Symbol → TheoryOf Symbol → Type 0
TheoryKnown variables (RelationHead relation) = RelationKnown variables relation
TheoryKnown variables (DomainHead intervals x) = IsMember variables x
TheoryKnown variables (DistinctHead places) = PlacesKnown variables places
TheoryKnown variables (DisjointHead places) = PlacesKnown variables places

-- the atoms that a rule gives or needs are listed, and so are its variables
abbrev pub LitKnown : List Symbol → List Symbol → LitOf Symbol Symbol → Type 0
LitKnown atoms variables (AtomLit a true) = IsMember atoms a
LitKnown atoms variables (AtomLit a false) = Unit {0}
LitKnown atoms variables (RelationLit relation sign) = RelationKnown variables relation

pub record ItemKnown (atoms variables : List Symbol) (item : ItemOf Symbol Symbol) : Type 0 where
  pub atom : IsMember atoms item.atom
  pub condition : AllByRecursion (LitKnown atoms variables) item.condition

abbrev pub HeadKnown : List Symbol → List Symbol → HeadOf Symbol Symbol → Type 0
HeadKnown atoms variables NothingHead = Unit {0}
HeadKnown atoms variables (GivesHead a) = IsMember atoms a
HeadKnown atoms variables (HoldsHead theory) = TheoryKnown variables theory
HeadKnown atoms variables (ChoosesHead items left right) = AllByRecursion (ItemKnown atoms variables) items

pub record RuleKnown (atoms variables : List Symbol) (rule : RuleOf Symbol Symbol) : Type 0 where
  pub body : AllByRecursion (LitKnown atoms variables) rule.body
  pub head : HeadKnown atoms variables rule.head

-- the variables have one value
abbrev pub HaveSame : List Symbol → (Symbol → ℤ) → (ℕ → ℤ) → Type 0
HaveSame variables values numbers = (x : Symbol) → IsMember variables x → values x ≡ numbers (variable_number variables x)

-- a set of symbols and a set of numbers say the same of the listed atoms, and have no others
pub record AreSame (atoms : List Symbol) (model : Symbol → Bool) (numbered : ℕ → Bool) : Type 0 where
  pub same : (a : Symbol) (n : ℕ) → Stands atoms a n → model a ≡ numbered n
  pub named : (a : Symbol) → model a ≡ true → IsMember atoms a
  pub names : (n : ℕ) → numbered n ≡ true → (a : Symbol) × Stands atoms a n

-- ---- the truth of theory atoms

module _ (variables : List Symbol) (values : Symbol → ℤ) (numbers : ℕ → ℤ) (same : HaveSame variables values numbers) where
  pairs_same : (pairs : List (Symbol × ℤ)) → AllByRecursion (λ pair. IsMember variables pair.0) pairs
      → pairs_value values pairs ≡ pairs_value numbers (map (λ pair. (variable_number variables pair.0, pair.1)) pairs)
  pairs_same [] k = refl
  pairs_same (pair ∷ pairs) k = λ i. (pair.1 *ℤ same pair.0 k.0 i) +ℤ pairs_same pairs k.1 i

  pub linear_same : (linear : LinearOf Symbol) → LinearKnown variables linear → value_of values linear ≡ value_of numbers (linear_numbered variables linear)
  linear_same linear k = ap (λ v. v +ℤ linear.constant) (pairs_same linear.pairs k)

  pub sum_same : (places : List (PlaceOf Symbol)) → PlacesKnown variables places → sum_of values places ≡ sum_of numbers (map (place_numbered variables) places)
  sum_same [] k = refl
  sum_same (place ∷ rest) k = λ i. linear_same place.linear k.0 i +ℤ sum_same rest k.1 i

  relation_same : (relation : RelationOf Symbol) → RelationKnown variables relation → relation_truth values relation ≡ relation_truth numbers (relation_numbered variables relation)
  relation_same relation k = λ i. compares relation.rel (sum_same relation.elements k.elements i) (linear_same relation.right k.right i)

  module _ (test : PlaceOf Symbol → PlaceOf Symbol → Bool) (other : PlaceOf ℕ → PlaceOf ℕ → Bool)
      (alike : (a b : PlaceOf Symbol) → LinearKnown variables a.linear → LinearKnown variables b.linear → test a b ≡ other (place_numbered variables a) (place_numbered variables b)) where
    all_same : (place : PlaceOf Symbol) (rest : List (PlaceOf Symbol)) → LinearKnown variables place.linear → PlacesKnown variables rest
        → list_all (test place) rest ≡ list_all (other (place_numbered variables place)) (map (place_numbered variables) rest)
    all_same place [] p k = refl
    all_same place (next ∷ rest) p k = ap₂ ◌&&◌ (alike place next p k.0) (all_same place rest p k.1)

    pairs_alike : (places : List (PlaceOf Symbol)) → PlacesKnown variables places → all_pairs test places ≡ all_pairs other (map (place_numbered variables) places)
    pairs_alike [] k = refl
    pairs_alike (place ∷ rest) k = ap₂ ◌&&◌ (all_same place rest k.0 k.1) (pairs_alike rest k.1)

  pub theory_same : (theory : TheoryOf Symbol) → TheoryKnown variables theory → theory_truth values theory ≡ theory_truth numbers (theory_numbered variables theory)
  theory_same (RelationHead relation) k = relation_same relation k
  theory_same (DomainHead intervals x) k = ap (lies_in intervals) (same x k)
  theory_same (DistinctHead places) k =
      pairs_alike (differ values) (differ numbers)
      (λ a b p q i. not (int_eq (linear_same a.linear p i) (linear_same b.linear q i))) places k
  theory_same (DisjointHead places) k =
      pairs_alike (are_apart values) (are_apart numbers)
      (λ a b p q i. not (share (linear_same a.linear p i) a.duration (linear_same b.linear q i) b.duration)) places k

-- ---- bodies and heads

module _ (atoms variables : List Symbol) (values : Symbol → ℤ) (numbers : ℕ → ℤ) (same : HaveSame variables values numbers)
    (model : Symbol → Bool) (numbered : ℕ → Bool) (one : AreSame atoms model numbered) where
  body_up : (xs : List (LitOf Symbol Symbol)) → AllByRecursion (LitKnown atoms variables) xs
      → Carries (Stands atoms) model numbered (map (read values) xs) (map (read numbers) (body_numbered atoms variables xs))
  body_up [] k P Q h p = tt
  body_up (RelationLit relation sign ∷ xs) k P Q h p =
      (subst (λ t. signed sign t ≡ true) (relation_same variables values numbers same relation k.0) p.0, body_up xs k.1 P Q h p.1)
  body_up (AtomLit a sign ∷ xs) k P Q h p = go sign (number_of atoms a) refl p.0 (body_up xs k.1 P Q h p.1)
    where
      go : (sign : Bool) (o : Option ℕ) → number_of atoms a ≡ o → Holds model P (AtomLiteral a sign)
          → AllByRecursion (Holds numbered Q) (map (read numbers) (body_numbered atoms variables xs))
          → AllByRecursion (Holds numbered Q) (map (read numbers) (literal_at o sign ++ body_numbered atoms variables xs))
      go sign None e p rest = rest
      go true (Some n) e p rest = (h a n e p, rest)
      go false (Some n) e p rest = (ap not (sym (one.same a n e)) ∙ p, rest)

  body_down : (xs : List (LitOf Symbol Symbol)) → AllByRecursion (LitKnown atoms variables) xs
      → Carries (λ n a. Stands atoms a n) numbered model (map (read numbers) (body_numbered atoms variables xs)) (map (read values) xs)
  body_down [] k P Q h p = tt
  body_down (RelationLit relation sign ∷ xs) k P Q h p =
      (subst (λ t. signed sign t ≡ true) (sym (relation_same variables values numbers same relation k.0)) p.0, body_down xs k.1 P Q h p.1)
  body_down (AtomLit a sign ∷ xs) k P Q h p = go sign (number_of atoms a) refl k.0 (body_down xs k.1 P Q h) p
    where
      none : number_of atoms a ≡ None → (t : Bool) → model a ≡ t → not (model a) ≡ true
      none e true m = let f = number_found 1 atoms a (one.named a m) in not_some f.0 (sym e ∙ f.1)
      none e false m = ap not m

      go : (sign : Bool) (o : Option ℕ) → number_of atoms a ≡ o → LitKnown atoms variables (AtomLit a sign)
          → (AllByRecursion (Holds numbered P) (map (read numbers) (body_numbered atoms variables xs)) → AllByRecursion (Holds model Q) (map (read values) xs))
          → AllByRecursion (Holds numbered P) (map (read numbers) (literal_at o sign ++ body_numbered atoms variables xs))
          → AllByRecursion (Holds model Q) (map (read values) (AtomLit a sign ∷ xs))
      go true None e k rec p = let f = number_found 1 atoms a k in not_some f.0 (sym e ∙ f.1)
      go true (Some n) e k rec p = (h n a e p.0, rec p.1)
      go false None e k rec p = (none e (model a) refl, rec p)
      go false (Some n) e k rec p = (ap not (one.same a n e) ∙ p.0, rec p.1)

  head_for : (head : HeadOf Symbol Symbol) → HeadKnown atoms variables head
      → HeadFor (Stands atoms) (read_head values head) (read_head numbers (head_numbered atoms variables head))
  head_for NothingHead k = tt
  head_for (GivesHead a) k =
      let n = number_found 1 atoms a k in
      subst (λ o. HeadFor (Stands atoms) (AtomHead a) (read_head numbers (head_at o))) (sym n.1) n.1
  head_for (HoldsHead theory) k = theory_same variables values numbers same theory k
  head_for (ChoosesHead items left right) k = λ n. refl

  abbrev Same : ItemOf Symbol Symbol → ItemOf ℕ ℕ → Type 0
  Same x y = ItemKnown atoms variables x × Stands atoms x.atom y.atom × (y.condition ≡ body_numbered atoms variables x.condition)

  items_up : (head : HeadOf Symbol Symbol) → HeadKnown atoms variables head → (x : ItemOf Symbol Symbol) → IsMember (items_of head) x
      → (f : (y : ItemOf ℕ ℕ) × IsMember (items_of (head_numbered atoms variables head)) y) × Same x f.0
  items_up NothingHead k x m = absurd m
  items_up (GivesHead a) k x m = absurd m
  items_up (HoldsHead theory) k x m = absurd m
  items_up (ChoosesHead items left right) k x m =
      let known = property_member (ItemKnown atoms variables) items x k m in
      let n = number_found 1 atoms x.atom known.atom in
      let y : ItemOf ℕ ℕ = record { atom = n.0; condition = body_numbered atoms variables x.condition } in
      let at : item_numbered atoms variables x ≡ y ∷ [] = ap (λ o. item_at o (body_numbered atoms variables x.condition)) n.1 in
      ((y, flat_to (item_numbered atoms variables) items x y m (subst (λ ys. IsMember ys y) (sym at) (inl refl))), (known, n.1, refl))

  items_down : (head : HeadOf Symbol Symbol) → HeadKnown atoms variables head → (y : ItemOf ℕ ℕ) → IsMember (items_of (head_numbered atoms variables head)) y
      → (e : (x : ItemOf Symbol Symbol) × IsMember (items_of head) x) × Same e.0 y
  items_down NothingHead k y m = absurd m
  items_down (GivesHead a) k y m = none (number_of atoms a) m
    where
      none : {X : Type 0} (o : Option ℕ) → IsMember (items_of (head_at o)) y → X
      none None m = absurd m
      none (Some n) m = absurd m
  items_down (HoldsHead theory) k y m = absurd m
  items_down (ChoosesHead items left right) k y m =
      let f = flat_from (item_numbered atoms variables) items y m in
      go f.0 f.1 (number_of atoms f.0.atom) refl f.2
    where
      go : (x : ItemOf Symbol Symbol) → IsMember items x → (o : Option ℕ) → number_of atoms x.atom ≡ o
          → IsMember (item_at o (body_numbered atoms variables x.condition)) y → (e : (x : ItemOf Symbol Symbol) × IsMember items x) × Same e.0 y
      go x m None q i = absurd i
      go x m (Some n) q (inr i) = absurd i
      go x m (Some n) q (inl i) =
          ((x, m), (property_member (ItemKnown atoms variables) items x k m, q ∙ ap Some (sym (ap (λ z. z.atom) i)), ap (λ z. z.condition) i))

  module _ (IsRule : RuleOf Symbol Symbol → Type 0) (IsNumbered : RuleOf ℕ ℕ → Type 0)
      (known : (rule : RuleOf Symbol Symbol) → IsRule rule → RuleKnown atoms variables rule)
      (right : (rule : RuleOf Symbol Symbol) → IsRule rule → IsNumbered (rule_numbered atoms variables rule))
      (left : (other : RuleOf ℕ ℕ) → IsNumbered other → (rule : RuleOf Symbol Symbol) × IsRule rule × (other ≡ rule_numbered atoms variables rule)) where
    twins : Twins (rules_with IsRule values) (rules_with IsNumbered numbers) model numbered (Stands atoms)
    twins = record {
      one_left = λ a c n p q. number_one 1 atoms a c n p q;
      one_right = λ a m n p q. some_same m n (sym p ∙ q);
      same = one.same;
      named = λ a e. number_found 1 atoms a (one.named a e);
      names = one.names;
      Pair = λ i j. j.0 ≡ rule_numbered atoms variables i.0;
      right = λ i. ((rule_numbered atoms variables i.0, right i.0 i.1), refl);
      left = λ j. let r = left j.0 j.1 in ((r.0, r.1), r.2);
      up = λ i j p. subst (λ r. Carries (Stands atoms) model numbered (map (read values) i.0.body) (map (read numbers) r.body)) (sym p) (body_up i.0.body (known i.0 i.1).body);
      down = λ i j p. subst (λ r. Carries (λ n a. Stands atoms a n) numbered model (map (read numbers) r.body) (map (read values) i.0.body)) (sym p) (body_down i.0.body (known i.0 i.1).body);
      head = λ i j p. subst (λ r. HeadFor (Stands atoms) (read_head values i.0.head) (read_head numbers r.head)) (sym p) (head_for i.0.head (known i.0 i.1).head);
      Items = λ i j e f. Same e.0 f.0;
      items_right = λ i j p e. subst (λ r. (f : (y : ItemOf ℕ ℕ) × IsMember (items_of r.head) y) × Same e.0 f.0) (sym p) (items_up i.0.head (known i.0 i.1).head e.0 e.1);
      items_left = λ i j p f. items_down i.0.head (known i.0 i.1).head f.0 (subst (λ r. IsMember (items_of r.head) f.0) p f.1);
      item_atom = λ i j e f q. q.1;
      item_up = λ i j e f q. subst (λ c. Carries (Stands atoms) model numbered (map (read values) e.0.condition) (map (read numbers) c)) (sym q.2) (body_up e.0.condition q.0.condition);
      item_down = λ i j e f q. subst (λ c. Carries (λ n a. Stands atoms a n) numbered model (map (read numbers) c) (map (read values) e.0.condition)) (sym q.2) (body_down e.0.condition q.0.condition);
    }

    pub numbered_up : IsModel IsRule values model → IsModel IsNumbered numbers numbered
    numbered_up = stable_up (rules_with IsRule values) (rules_with IsNumbered numbers) model numbered (Stands atoms) twins

    pub numbered_down : IsModel IsNumbered numbers numbered → IsModel IsRule values model
    numbered_down =
        stable_up (rules_with IsNumbered numbers) (rules_with IsRule values) numbered model (λ n a. Stands atoms a n)
        (turned (rules_with IsRule values) (rules_with IsNumbered numbers) model numbered (Stands atoms) twins)
