-- Theory atoms with too large values, one by one.
use Rattle.std.proofs.Common.{◌≡◌, ◌<◌, ◌⊎◌, inl, inr, ℕ, zero, suc, Bool, true, false, not, List, [], ◌∷◌, map, length, slice_index_or, refl, sym, ap, ◌∙◌, subst, true≢false, arith}
use Rattle.std.specs.List.{AllZip}
use Rattle.symbols.specs.declared.ends.Ends.{Ends}
use Rattle.symbols.specs.Symbol.{Symbol}
use Rattle.syntax_tree.specs.declared.literal.TheoryName.{TheoryName}
use Rattle.syntax_tree.specs.declared.literal.TheoryName.TheVariants as name
use Rattle.syntax_tree.specs.declared.literal.Literal.TheFolds.{fold-roll-TheoryAtom}
use Rattle.syntax_tree.specs.declared.literal.Literal.TheViews.{out-TheoryAtom, roll-out-TheoryAtom}
use Rattle.syntax_tree.specs.declared.literal.TheoryAtom.{TheoryAtom}
use Rattle.ground_model.specs.Members.{IsMember}
use Rattle.ground_model.specs.Rule.{PlaceOf}
use Rattle.ground_model.proofs.Bools.{not_true}
use Rattle.ground_model.proofs.MemberLemmas.{any_member, member_any}
use Rattle.program_meaning.specs.Outside.{HasLargeValue, is_small_within}
use Rattle.program_meaning.specs.Read.{ReadElement, ReadTheory, ReadLiteral, ReadRule, theory_read, read_literal, read_theory, read_element}
use Rattle.program_meaning.specs.Said.{place_in}
use Rattle.program_meaning.specs.Substitution.{Value}
use Rattle.theory_plans.specs.declared.plan.TheoryPlan.{TheoryPlan}
use Rattle.theory_plans.specs.Planned.{IsTheoryPlan}
use Rattle.collected_atoms.specs.declared.atom.CollectedAtom.{CollectedAtom}
use Rattle.collected_atoms.specs.Said.{IsAtomIn}
use Rattle.large_atoms.specs.inner.Large.{is_large, is_large_form}

-- ONE THEORY ATOM

module _ (ends : Ends) (symbols : List Symbol) (P : Symbol → Type 0) (rule : ReadRule) (values : List Value) (theory : ReadTheory) (atom : CollectedAtom) (is : IsAtomIn symbols P rule values theory atom) where
  places : List (PlaceOf Symbol)
  places = map (place_in symbols) atom.places

  large_set : (theory.name ≡ name.Distinct) ⊎ (theory.name ≡ name.Disjoint) → (theory.name ≡ name.Dom → ⊥) → is_large ends (map (place_in symbols) atom.places) ≡ true
      → HasLargeValue P ends rule values theory
  large_set kind other e =
      let r = member_any (λ place. not (is_small_within ends place.linear)) (map (place_in symbols) atom.places) e in
      record { name = kind; place = r.0; tuple = ((is.tuples other).all r.0).0 r.1; large = not_true (is_small_within ends r.0.linear) r.2 }

  small_set : (theory.name ≡ name.Dom → ⊥) → is_large ends (map (place_in symbols) atom.places) ≡ false → HasLargeValue P ends rule values theory → ⊥
  small_set other e has =
      true≢false
      (sym (any_member (λ place. not (is_small_within ends place.linear)) (map (place_in symbols) atom.places) has.place (((is.tuples other).all has.place).1 has.tuple) (ap not has.large)) ∙ e)

  distinct_other : (kind : TheoryName) → theory.name ≡ kind → (kind ≡ name.Dom → ⊥) → theory.name ≡ name.Dom → ⊥
  distinct_other kind e n d = n (sym e ∙ d)

  large_at : (kind : TheoryName) → theory.name ≡ kind → is_large_form ends kind (map (place_in symbols) atom.places) ≡ true → HasLargeValue P ends rule values theory
  large_at name.Distinct e h = large_set (inl e) (distinct_other name.Distinct e differ) h
    where
      differ : name.Distinct ≡ name.Dom → ⊥
      differ f = cc
  large_at name.Disjoint e h = large_set (inr e) (distinct_other name.Disjoint e differ) h
    where
      differ : name.Disjoint ≡ name.Dom → ⊥
      differ f = cc
  large_at name.Sum e h = absurd (true≢false (sym h))
  large_at name.Diff e h = absurd (true≢false (sym h))
  large_at name.Dom e h = absurd (true≢false (sym h))
  large_at name.Minimize e h = absurd (true≢false (sym h))
  large_at name.Maximize e h = absurd (true≢false (sym h))
  large_at name.Show e h = absurd (true≢false (sym h))
  large_at name.Unknown e h = absurd (true≢false (sym h))

  neither : (kind : TheoryName) → theory.name ≡ kind → (kind ≡ name.Distinct → ⊥) → (kind ≡ name.Disjoint → ⊥) → HasLargeValue P ends rule values theory → ⊥
  neither kind e n m has = go has.name
    where
      go : (theory.name ≡ name.Distinct) ⊎ (theory.name ≡ name.Disjoint) → ⊥
      go (inl f) = n (sym e ∙ f)
      go (inr f) = m (sym e ∙ f)

  small_at : (kind : TheoryName) → theory.name ≡ kind → is_large_form ends kind (map (place_in symbols) atom.places) ≡ false → HasLargeValue P ends rule values theory → ⊥
  small_at name.Distinct e h = small_set (distinct_other name.Distinct e differ) h
    where
      differ : name.Distinct ≡ name.Dom → ⊥
      differ f = cc
  small_at name.Disjoint e h = small_set (distinct_other name.Disjoint e differ) h
    where
      differ : name.Disjoint ≡ name.Dom → ⊥
      differ f = cc
  small_at name.Sum e h = neither name.Sum e (λ f. cc) (λ f. cc)
  small_at name.Diff e h = neither name.Diff e (λ f. cc) (λ f. cc)
  small_at name.Dom e h = neither name.Dom e (λ f. cc) (λ f. cc)
  small_at name.Minimize e h = neither name.Minimize e (λ f. cc) (λ f. cc)
  small_at name.Maximize e h = neither name.Maximize e (λ f. cc) (λ f. cc)
  small_at name.Show e h = neither name.Show e (λ f. cc) (λ f. cc)
  small_at name.Unknown e h = neither name.Unknown e (λ f. cc) (λ f. cc)

-- ALL THEORY ATOMS

name_read : (t : TheoryAtom) → (theory_read t).name ≡ (out-TheoryAtom t).name
name_read t =
    ap (λ r. r.name) (ap theory_read (sym (roll-out-TheoryAtom t)) ∙ fold-roll-TheoryAtom ReadLiteral ReadTheory ReadElement read_literal read_theory read_element (out-TheoryAtom t))

abbrev pub is_large_one : Ends → List Symbol → TheoryPlan → CollectedAtom → Bool
is_large_one ends symbols plan atom = is_large_form ends (out-TheoryAtom plan.theory.now).name (map (place_in symbols) atom.places)

-- none of the first so many is too large
abbrev pub AreSmallBefore : Ends → List Symbol → ℕ → List TheoryPlan → List CollectedAtom → Type 0
AreSmallBefore ends symbols zero plans atoms = Unit {0}
AreSmallBefore ends symbols (suc n) [] atoms = Unit {0}
AreSmallBefore ends symbols (suc n) (plan ∷ plans) [] = Unit {0}
AreSmallBefore ends symbols (suc n) (plan ∷ plans) (atom ∷ atoms) = (is_large_one ends symbols plan atom ≡ false) × AreSmallBefore ends symbols n plans atoms

pub small_more : (ends : Ends) (symbols : List Symbol) (n : ℕ) (plans : List TheoryPlan) (atoms : List CollectedAtom) (plan d : TheoryPlan) (atom c : CollectedAtom) → plan ≡ slice_index_or plans n d
    → atom ≡ slice_index_or atoms n c → AreSmallBefore ends symbols n plans atoms → is_large_one ends symbols plan atom ≡ false → AreSmallBefore ends symbols (suc n) plans atoms
small_more ends symbols n [] atoms plan d atom c e f b h = tt
small_more ends symbols n (p ∷ plans) [] plan d atom c e f b h = tt
small_more ends symbols zero (p ∷ plans) (a ∷ atoms) plan d atom c e f b h = ((λ i. is_large_one ends symbols (sym e i) (sym f i)) ∙ h, tt)
small_more ends symbols (suc n) (p ∷ plans) (a ∷ atoms) plan d atom c e f b h = (b.0, small_more ends symbols n plans atoms plan d atom c e f b.1 h)

module _ (ends : Ends) (symbols : List Symbol) (P : Symbol → Type 0) (rule : ReadRule) (values : List Value) where
  name_of : (theory : ReadTheory) (plan : TheoryPlan) → IsTheoryPlan rule theory plan → theory.name ≡ (out-TheoryAtom plan.theory.now).name
  name_of theory plan is = ap (λ t. t.name) (sym is.theory_is) ∙ name_read plan.theory.now

  pub none_large : (n : ℕ) (all : List ReadTheory) (plans : List TheoryPlan) (atoms : List CollectedAtom) → length atoms ≡ n → AllZip (IsTheoryPlan rule) all plans
      → AllZip (IsAtomIn symbols P rule values) all atoms → AreSmallBefore ends symbols n plans atoms → (theory : ReadTheory) → IsMember all theory → HasLargeValue P ends rule values theory → ⊥
  none_large n [] plans atoms l z w b theory m has = m
  none_large n (t ∷ all) [] atoms l z w b theory m has = absurd z
  none_large n (t ∷ all) (plan ∷ plans) [] l z w b theory m has = absurd w
  none_large zero (t ∷ all) (plan ∷ plans) (atom ∷ atoms) l z w b theory m has = absurd (omega (arith, l))
  none_large (suc n) (t ∷ all) (plan ∷ plans) (atom ∷ atoms) l z w b theory (inl e) has =
      small_at ends symbols P rule values t atom w.0 (out-TheoryAtom plan.theory.now).name (name_of t plan z.0) b.0 (subst (HasLargeValue P ends rule values) e has)
  none_large (suc n) (t ∷ all) (plan ∷ plans) (atom ∷ atoms) l z w b theory (inr m) has = none_large n all plans atoms (omega (arith, l)) z.1 w.1 b.1 theory m has

  pub some_large : (n : ℕ) (all : List ReadTheory) (plans : List TheoryPlan) (atoms : List CollectedAtom) (plan d : TheoryPlan) (atom c : CollectedAtom) → plan ≡ slice_index_or plans n d
      → atom ≡ slice_index_or atoms n c → n < length atoms → AllZip (IsTheoryPlan rule) all plans → AllZip (IsAtomIn symbols P rule values) all atoms → is_large_one ends symbols plan atom ≡ true
      → (theory : ReadTheory) × IsMember all theory × HasLargeValue P ends rule values theory
  some_large n [] plans [] plan d atom c e f l z w h = absurd (omega (arith, l))
  some_large n [] plans (a ∷ atoms) plan d atom c e f l z w h = absurd w
  some_large n (t ∷ all) [] atoms plan d atom c e f l z w h = absurd z
  some_large n (t ∷ all) (p ∷ plans) [] plan d atom c e f l z w h = absurd w
  some_large zero (t ∷ all) (p ∷ plans) (a ∷ atoms) plan d atom c e f l z w h =
      (t, inl refl, large_at ends symbols P rule values t a w.0 (out-TheoryAtom p.theory.now).name (name_of t p z.0) ((λ i. is_large_one ends symbols (sym e i) (sym f i)) ∙ h))
  some_large (suc n) (t ∷ all) (p ∷ plans) (a ∷ atoms) plan d atom c e f l z w h =
      let r = some_large n all plans atoms plan d atom c e f (omega (arith, l)) z.1 w.1 h in
      (r.0, inr r.1, r.2)
