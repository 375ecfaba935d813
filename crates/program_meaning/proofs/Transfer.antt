-- Two families of rules that say the same have the same stable models.
use Rattle.std.proofs.Common.{◌≡◌, inl, inr, ℕ, zero, suc, Bool, true, false, List, [], ◌∷◌, length, refl, sym, ◌∙◌, ap, subst}
use Rattle.std.specs.List.{AllByRecursion}
use Rattle.ground_model.specs.Members.{IsMember, IsApart, Counts}
use Rattle.ground_model.specs.Rules.{Literal, AtomLiteral, TheoryLiteral, Head, NoHead, AtomHead, TheoryHead, ChoiceHead, Rules, IsTrueIn}
use Rattle.ground_model.specs.Derivable.{Holds, Derivable}
use Rattle.ground_model.specs.Stable.{IsChosen, HeadHolds, IsStable}
use Rattle.ground_model.proofs.MemberLemmas.{property_from_members, property_map}

-- a body that is true holds from the atoms of the model, and the other way round
true_holds : {A : Type 0} (M : A → Bool) (literal : Literal A) → IsTrueIn M literal → Holds M (λ a. M a ≡ true) literal
true_holds M (AtomLiteral a true) t = t
true_holds M (AtomLiteral a false) t = t
true_holds M (TheoryLiteral truth) t = t

holds_true : {A : Type 0} (M : A → Bool) (literal : Literal A) → Holds M (λ a. M a ≡ true) literal → IsTrueIn M literal
holds_true M (AtomLiteral a true) t = t
holds_true M (AtomLiteral a false) t = t
holds_true M (TheoryLiteral truth) t = t

trues_hold : {A : Type 0} (M : A → Bool) (xs : List (Literal A)) → AllByRecursion (IsTrueIn M) xs → AllByRecursion (Holds M (λ a. M a ≡ true)) xs
trues_hold M xs t = property_map (IsTrueIn M) (Holds M (λ a. M a ≡ true)) (true_holds M) xs t

hold_trues : {A : Type 0} (M : A → Bool) (xs : List (Literal A)) → AllByRecursion (Holds M (λ a. M a ≡ true)) xs → AllByRecursion (IsTrueIn M) xs
hold_trues M xs t = property_map (Holds M (λ a. M a ≡ true)) (IsTrueIn M) (holds_true M) xs t

abbrev pub HeadFor : {A B : Type 0} → (A → B → Type 0) → Head A → Head B → Type 0
HeadFor Stands NoHead NoHead = Unit {0}
HeadFor Stands (AtomHead a) (AtomHead b) = Stands a b
HeadFor Stands (TheoryHead s) (TheoryHead t) = s ≡ t
HeadFor Stands (ChoiceHead f) (ChoiceHead g) = (n : ℕ) → f n ≡ g n
HeadFor Stands _ _ = ⊥

-- the one body holds where the other does, from lower atoms to those that stand for them
abbrev pub Carries : {A B : Type 0} → (A → B → Type 0) → (A → Bool) → (B → Bool) → List (Literal A) → List (Literal B) → Type 1
Carries {A} {B} Stands M N xs ys =
    (P : A → Type 0) (Q : B → Type 0) → ((a : A) (b : B) → Stands a b → P a → Q b) → AllByRecursion (Holds M P) xs → AllByRecursion (Holds N Q) ys

pub record Twins {A B : Type 0} (big : Rules A) (small : Rules B) (M : A → Bool) (N : B → Bool) (Stands : A → B → Type 0) : Type 1 where
  pub one_left : (a c : A) (b : B) → Stands a b → Stands c b → a ≡ c
  pub one_right : (a : A) (b d : B) → Stands a b → Stands a d → b ≡ d
  pub same : (a : A) (b : B) → Stands a b → M a ≡ N b
  pub named : (a : A) → M a ≡ true → (b : B) × Stands a b
  pub names : (b : B) → N b ≡ true → (a : A) × Stands a b
  pub Pair : big.Name → small.Name → Type 0
  pub right : (i : big.Name) → (j : small.Name) × Pair i j
  pub left : (j : small.Name) → (i : big.Name) × Pair i j
  pub up : (i : big.Name) (j : small.Name) → Pair i j → Carries Stands M N (big.body i) (small.body j)
  pub down : (i : big.Name) (j : small.Name) → Pair i j → Carries (λ b a. Stands a b) N M (small.body j) (big.body i)
  pub head : (i : big.Name) (j : small.Name) → Pair i j → HeadFor Stands (big.head i) (small.head j)
  pub Items : (i : big.Name) (j : small.Name) → big.Element i → small.Element j → Type 0
  pub items_right : (i : big.Name) (j : small.Name) → Pair i j → (e : big.Element i) → (f : small.Element j) × Items i j e f
  pub items_left : (i : big.Name) (j : small.Name) → Pair i j → (f : small.Element j) → (e : big.Element i) × Items i j e f
  pub item_atom : (i : big.Name) (j : small.Name) (e : big.Element i) (f : small.Element j) → Items i j e f → Stands (big.item i e).atom (small.item j f).atom
  pub item_up : (i : big.Name) (j : small.Name) (e : big.Element i) (f : small.Element j) → Items i j e f → Carries Stands M N (big.item i e).condition (small.item j f).condition
  pub item_down : (i : big.Name) (j : small.Name) (e : big.Element i) (f : small.Element j) → Items i j e f → Carries (λ b a. Stands a b) N M (small.item j f).condition (big.item i e).condition

head_back : {A B : Type 0} (Stands : A → B → Type 0) (h : Head A) (k : Head B) → HeadFor Stands h k → HeadFor (λ b a. Stands a b) k h
head_back Stands NoHead NoHead f = f
head_back Stands (AtomHead a) (AtomHead b) f = f
head_back Stands (TheoryHead s) (TheoryHead t) f = sym f
head_back Stands (ChoiceHead u) (ChoiceHead v) f = λ n. sym (f n)
head_back Stands NoHead (AtomHead b) f = absurd f
head_back Stands NoHead (TheoryHead b) f = absurd f
head_back Stands NoHead (ChoiceHead b) f = absurd f
head_back Stands (AtomHead a) NoHead f = absurd f
head_back Stands (AtomHead a) (TheoryHead b) f = absurd f
head_back Stands (AtomHead a) (ChoiceHead b) f = absurd f
head_back Stands (TheoryHead a) NoHead f = absurd f
head_back Stands (TheoryHead a) (AtomHead b) f = absurd f
head_back Stands (TheoryHead a) (ChoiceHead b) f = absurd f
head_back Stands (ChoiceHead a) NoHead f = absurd f
head_back Stands (ChoiceHead a) (AtomHead b) f = absurd f
head_back Stands (ChoiceHead a) (TheoryHead b) f = absurd f

pub turned : {A B : Type 0} (big : Rules A) (small : Rules B) (M : A → Bool) (N : B → Bool) (Stands : A → B → Type 0) → Twins big small M N Stands → Twins small big N M (λ b a. Stands a b)
turned big small M N Stands t = record {
  one_left = λ b d a p q. t.one_right a b d p q;
  one_right = λ b a c p q. t.one_left a c b p q;
  same = λ b a p. sym (t.same a b p);
  named = t.names;
  names = t.named;
  Pair = λ j i. t.Pair i j;
  right = t.left;
  left = t.right;
  up = λ j i p. t.down i j p;
  down = λ j i p. t.up i j p;
  head = λ j i p. head_back Stands (big.head i) (small.head j) (t.head i j p);
  Items = λ j i f e. t.Items i j e f;
  items_right = λ j i p f. t.items_left i j p f;
  items_left = λ j i p e. t.items_right i j p e;
  item_atom = λ j i f e p. t.item_atom i j e f p;
  item_up = λ j i f e p. t.item_down i j e f p;
  item_down = λ j i f e p. t.item_up i j e f p;
}

-- COUNTS

module _ {A B : Type 0} (Stands : A → B → Type 0) (P : A → Type 0) (Q : B → Type 0)
    (one_left : (a c : A) (b : B) → Stands a b → Stands c b → a ≡ c)
    (one_right : (a : A) (b d : B) → Stands a b → Stands a d → b ≡ d)
    (up : (a : A) → P a → (b : B) × Stands a b × Q b)
    (down : (b : B) → Q b → (a : A) × Stands a b × P a) where
  carried : (xs : List A) → AllByRecursion P xs → List B
  carried [] p = []
  carried (x ∷ xs) p = (up x p.0).0 ∷ carried xs p.1

  carried_length : (xs : List A) (p : AllByRecursion P xs) → length (carried xs p) ≡ length xs
  unfolding carried
  carried_length [] p = refl
  carried_length (x ∷ xs) p = ap suc (carried_length xs p.1)

  carried_from : (xs : List A) (p : AllByRecursion P xs) (b : B) → IsMember (carried xs p) b → (a : A) × IsMember xs a × Stands a b × Q b
  unfolding carried
  carried_from [] p b m = absurd m
  carried_from (x ∷ xs) p b (inl e) = let u = up x p.0 in (x, inl refl, subst (λ d. Stands x d) (sym e) u.1, subst Q (sym e) u.2)
  carried_from (x ∷ xs) p b (inr m) = let r = carried_from xs p.1 b m in (r.0, inr r.1, r.2, r.3)

  carried_to : (xs : List A) (p : AllByRecursion P xs) (a : A) (b : B) → IsMember xs a → Stands a b → IsMember (carried xs p) b
  unfolding carried
  carried_to [] p a b m s = absurd m
  carried_to (x ∷ xs) p a b (inl e) s = let u = up x p.0 in inl (one_right x b u.0 (subst (λ c. Stands c b) e s) u.1)
  carried_to (x ∷ xs) p a b (inr m) s = inr (carried_to xs p.1 a b m s)

  carried_apart : (xs : List A) (p : AllByRecursion P xs) → IsApart xs → IsApart (carried xs p)
  unfolding carried
  carried_apart [] p a = tt
  carried_apart (x ∷ xs) p a = (
    λ m. let u = up x p.0 in let r = carried_from xs p.1 u.0 m in a.0 (subst (λ c. IsMember xs c) (one_left r.0 x u.0 r.2 u.1) r.1),
    carried_apart xs p.1 a.1,
  )

  pub counts_up : (n : ℕ) → Counts P n → Counts Q n
  counts_up n c =
      let p : AllByRecursion P c.0 = property_from_members P c.0 (λ x m. (c.3 x).0 m) in (
        carried c.0 p,
        carried_length c.0 p ∙ c.1,
        carried_apart c.0 p c.2,
        λ b. (λ m. (carried_from c.0 p b m).3, λ q. let d = down b q in carried_to c.0 p d.0 b ((c.3 d.0).1 d.2) d.1),
      )

-- THE MODELS

module _ {A B : Type 0} (big : Rules A) (small : Rules B) (M : A → Bool) (N : B → Bool) (Stands : A → B → Type 0) (t : Twins big small M N Stands) where
  head_gives : (a : A) (h : Head A) (k : Head B) → HeadFor Stands h k → h ≡ AtomHead a → (b : B) × (k ≡ AtomHead b) × Stands a b
  head_gives a h k f e = go k (subst (λ g. HeadFor Stands g k) e f)
    where
      go : (k : Head B) → HeadFor Stands (AtomHead a) k → (b : B) × (k ≡ AtomHead b) × Stands a b
      go NoHead f = absurd f
      go (AtomHead b) f = (b, refl, f)
      go (TheoryHead s) f = absurd f
      go (ChoiceHead s) f = absurd f

  derivable_up : (n : ℕ) (a : A) (b : B) → Stands a b → Derivable big M n a → Derivable small N n b
  derivable_up zero a b s d = d
  derivable_up (suc n) a b s (inl d) =
      let r = t.right d.0 in
      let h = head_gives a (big.head d.0) (small.head r.0) (t.head d.0 r.0 r.1) d.1 in
      inl (r.0, subst (λ c. small.head r.0 ≡ AtomHead c) (t.one_right a h.0 b h.2 s) h.1, t.up d.0 r.0 r.1 (Derivable big M n) (Derivable small N n) (derivable_up n) d.2)
  derivable_up (suc n) a b s (inr d) =
      let r = t.right d.0 in
      let f = t.items_right d.0 r.0 r.1 d.1 in
      let same : Stands a (small.item r.0 f.0).atom = subst (λ c. Stands c (small.item r.0 f.0).atom) d.2 (t.item_atom d.0 r.0 d.1 f.0 f.1) in
      inr (
        r.0,
        f.0,
        t.one_right a (small.item r.0 f.0).atom b same s,
        sym (t.same a b s) ∙ d.3,
        t.up d.0 r.0 r.1 (Derivable big M n) (Derivable small N n) (derivable_up n) d.4,
        t.item_up d.0 r.0 d.1 f.0 f.1 (Derivable big M n) (Derivable small N n) (derivable_up n) d.5,
      )

  derivable_named : (n : ℕ) (a : A) → Derivable big M n a → (b : B) × Stands a b
  derivable_named zero a d = absurd d
  derivable_named (suc n) a (inl d) =
      let r = t.right d.0 in
      let h = head_gives a (big.head d.0) (small.head r.0) (t.head d.0 r.0 r.1) d.1 in
      (h.0, h.2)
  derivable_named (suc n) a (inr d) = t.named a d.3

  true_up : (a : A) (b : B) → Stands a b → M a ≡ true → N b ≡ true
  true_up a b s e = sym (t.same a b s) ∙ e

  true_down : (b : B) (a : A) → Stands a b → N b ≡ true → M a ≡ true
  true_down b a s e = t.same a b s ∙ e

  chosen_up : (i : big.Name) (j : small.Name) → t.Pair i j → (a : A) → IsChosen big M i a → (b : B) × Stands a b × IsChosen small N j b
  chosen_up i j p a c =
      let f = t.items_right i j p c.1.0 in
      let s : Stands a (small.item j f.0).atom = subst (λ x. Stands x (small.item j f.0).atom) c.1.1 (t.item_atom i j c.1.0 f.0 f.1) in
      ((small.item j f.0).atom, s, (true_up a (small.item j f.0).atom s c.0, (f.0, refl, hold_trues N (small.item j f.0).condition (t.item_up i j c.1.0 f.0 f.1 (λ x. M x ≡ true) (λ y. N y ≡ true) true_up (trues_hold M (big.item i c.1.0).condition c.1.2)))))

  chosen_down : (i : big.Name) (j : small.Name) → t.Pair i j → (b : B) → IsChosen small N j b → (a : A) × Stands a b × IsChosen big M i a
  chosen_down i j p b c =
      let e = t.items_left i j p c.1.0 in
      let s : Stands (big.item i e.0).atom b = subst (λ x. Stands (big.item i e.0).atom x) c.1.1 (t.item_atom i j e.0 c.1.0 e.1) in
      ((big.item i e.0).atom, s, (true_down b (big.item i e.0).atom s c.0, (e.0, refl, hold_trues M (big.item i e.0).condition (t.item_down i j e.0 c.1.0 e.1 (λ y. N y ≡ true) (λ x. M x ≡ true) true_down (trues_hold N (small.item j c.1.0).condition c.1.2)))))

  head_up : (i : big.Name) (j : small.Name) → t.Pair i j → (h : Head A) (k : Head B) → HeadFor Stands h k → HeadHolds M (IsChosen big M i) h → HeadHolds N (IsChosen small N j) k
  head_up i j p NoHead NoHead f e = e
  head_up i j p (AtomHead a) (AtomHead b) f e = true_up a b f e
  head_up i j p (TheoryHead s) (TheoryHead r) f e = sym f ∙ e
  head_up i j p (ChoiceHead u) (ChoiceHead v) f e =
      (e.0, counts_up Stands (IsChosen big M i) (IsChosen small N j) t.one_left t.one_right (chosen_up i j p) (chosen_down i j p) e.0 e.1, sym (f e.0) ∙ e.2)
  head_up i j p NoHead (AtomHead b) f e = absurd f
  head_up i j p NoHead (TheoryHead b) f e = absurd f
  head_up i j p NoHead (ChoiceHead b) f e = absurd f
  head_up i j p (AtomHead a) NoHead f e = absurd f
  head_up i j p (AtomHead a) (TheoryHead b) f e = absurd f
  head_up i j p (AtomHead a) (ChoiceHead b) f e = absurd f
  head_up i j p (TheoryHead a) NoHead f e = absurd f
  head_up i j p (TheoryHead a) (AtomHead b) f e = absurd f
  head_up i j p (TheoryHead a) (ChoiceHead b) f e = absurd f
  head_up i j p (ChoiceHead a) NoHead f e = absurd f
  head_up i j p (ChoiceHead a) (AtomHead b) f e = absurd f
  head_up i j p (ChoiceHead a) (TheoryHead b) f e = absurd f

  pub duty_up : (i : big.Name) (j : small.Name) → t.Pair i j
      → (AllByRecursion (IsTrueIn M) (big.body i) → HeadHolds M (IsChosen big M i) (big.head i))
      → AllByRecursion (IsTrueIn N) (small.body j) → HeadHolds N (IsChosen small N j) (small.head j)
  duty_up i j p h e =
      head_up i j p (big.head i) (small.head j) (t.head i j p) (h (hold_trues M (big.body i) (t.down i j p (λ y. N y ≡ true) (λ x. M x ≡ true) true_down (trues_hold N (small.body j) e))))

  pub derived_up : (a : A) (b : B) (n : ℕ) → Stands a b → Derivable big M n a → Derivable small N n b
  derived_up a b n s d = derivable_up n a b s d

  pub has_name : (n : ℕ) (a : A) → Derivable big M n a → (b : B) × Stands a b
  has_name n a d = derivable_named n a d

pub stable_up : {A B : Type 0} (big : Rules A) (small : Rules B) (M : A → Bool) (N : B → Bool) (Stands : A → B → Type 0) (t : Twins big small M N Stands) → IsStable big M → IsStable small N
stable_up big small M N Stands t stable =
    let back = turned big small M N Stands t in record {
      derived = λ b e.
          let a = t.names b e in
          let d = stable.derived a.0 (t.same a.0 b a.1 ∙ e) in
          (d.0, derived_up big small M N Stands t a.0 b d.0 a.1 d.1);
      closed = λ b n d.
          let a = has_name small big N M (λ y x. Stands x y) back n b d in
          sym (t.same a.0 b a.1) ∙ stable.closed a.0 n (derived_up small big N M (λ y x. Stands x y) back b a.0 n a.1 d);
      duties = λ j e. let i = t.left j in duty_up big small M N Stands t i.0 j i.1 (stable.duties i.0) e;
    }
