-- The tuples of directives.
use Rattle.std.proofs.Common.{◌≡◌, inl, inr, Bool, true, false, if◌then◌else◌, List, [], ◌∷◌, slice_get, refl, sym, ap, ◌∙◌, subst, true≢false}
use Rattle.symbols.specs.Symbol.{Symbol}
use Rattle.syntax_tree.specs.declared.literal.TheoryName.{TheoryName}
use Rattle.syntax_tree.specs.declared.literal.TheoryName.TheVariants as name
use Rattle.ground_model.specs.Members.{IsMember}
use Rattle.ground_model.specs.Rule.{PlaceOf}
use Rattle.program_meaning.specs.Read.{ReadTheory, ReadHead, ReadNothing, ReadAtom, ReadDuty, ReadChoose, ReadRule}
use Rattle.program_meaning.specs.Canonical.{has_name}
use Rattle.program_meaning.specs.Ground.{is_directive}
use Rattle.program_meaning.specs.Instance.{IsPossible}
use Rattle.program_meaning.specs.Substitution.{Value}
use Rattle.program_meaning.specs.Tuples.{IsTuple}
use Rattle.program_meaning.proofs.Lists.{flat_to, flat_from, some_one}
use Rattle.instance_laws.specs.Making.{joined, Named, IsTheoryPart, IsHeadPart, IsDirectivePart}
use Rattle.instance_laws.specs.Laws.{DirectedLaw}
use Rattle.instance_laws.proofs.Zips.{zip_part, zip_key, joined_to, joined_from}

-- NAMES

same_name : (a b : TheoryName) → has_name a b ≡ true → a ≡ b
same_name name.Minimize name.Minimize e = refl
same_name name.Maximize name.Maximize e = refl
same_name name.Show name.Show e = refl
same_name name.Minimize name.Sum e = absurd (true≢false (sym e))
same_name name.Minimize name.Diff e = absurd (true≢false (sym e))
same_name name.Minimize name.Distinct e = absurd (true≢false (sym e))
same_name name.Minimize name.Disjoint e = absurd (true≢false (sym e))
same_name name.Minimize name.Dom e = absurd (true≢false (sym e))
same_name name.Minimize name.Maximize e = absurd (true≢false (sym e))
same_name name.Minimize name.Show e = absurd (true≢false (sym e))
same_name name.Minimize name.Unknown e = absurd (true≢false (sym e))
same_name name.Maximize name.Sum e = absurd (true≢false (sym e))
same_name name.Maximize name.Diff e = absurd (true≢false (sym e))
same_name name.Maximize name.Distinct e = absurd (true≢false (sym e))
same_name name.Maximize name.Disjoint e = absurd (true≢false (sym e))
same_name name.Maximize name.Dom e = absurd (true≢false (sym e))
same_name name.Maximize name.Minimize e = absurd (true≢false (sym e))
same_name name.Maximize name.Show e = absurd (true≢false (sym e))
same_name name.Maximize name.Unknown e = absurd (true≢false (sym e))
same_name name.Show name.Sum e = absurd (true≢false (sym e))
same_name name.Show name.Diff e = absurd (true≢false (sym e))
same_name name.Show name.Distinct e = absurd (true≢false (sym e))
same_name name.Show name.Disjoint e = absurd (true≢false (sym e))
same_name name.Show name.Dom e = absurd (true≢false (sym e))
same_name name.Show name.Minimize e = absurd (true≢false (sym e))
same_name name.Show name.Maximize e = absurd (true≢false (sym e))
same_name name.Show name.Unknown e = absurd (true≢false (sym e))
same_name name.Sum b e = absurd (true≢false (sym e))
same_name name.Diff b e = absurd (true≢false (sym e))
same_name name.Distinct b e = absurd (true≢false (sym e))
same_name name.Disjoint b e = absurd (true≢false (sym e))
same_name name.Dom b e = absurd (true≢false (sym e))
same_name name.Unknown b e = absurd (true≢false (sym e))

own_name : (a : TheoryName) → is_directive a ≡ true → has_name a a ≡ true
own_name name.Minimize e = refl
own_name name.Maximize e = refl
own_name name.Show e = refl
own_name name.Sum e = absurd (true≢false (sym e))
own_name name.Diff e = absurd (true≢false (sym e))
own_name name.Distinct e = absurd (true≢false (sym e))
own_name name.Disjoint e = absurd (true≢false (sym e))
own_name name.Dom e = absurd (true≢false (sym e))
own_name name.Unknown e = absurd (true≢false (sym e))

-- PARTS

module _ (rules : List ReadRule) (directive : TheoryName) where
  abbrev places_of : Named → List (PlaceOf Symbol)
  places_of one = if has_name directive one.0 then one.1 else []

  named : (one : Named) (place : PlaceOf Symbol) → IsMember (places_of one) place → (directive ≡ one.0) × IsMember one.1 place
  named one place m = go (has_name directive one.0) refl m
    where
      go : (b : Bool) → has_name directive one.0 ≡ b → IsMember (if b then one.1 else []) place → (directive ≡ one.0) × IsMember one.1 place
      go true e k = (same_name directive one.0 e, k)
      go false e k = absurd k

  to_named : is_directive directive ≡ true → (one : Named) (place : PlaceOf Symbol) → directive ≡ one.0 → IsMember one.1 place → IsMember (places_of one) place
  to_named d one place e m =
      subst (λ b. IsMember (if b then one.1 else []) place) (sym (ap (has_name directive) (sym e) ∙ own_name directive d)) m

  theory_part : (rule : ReadRule) (values : List Value) (theory : ReadTheory) (b : Bool) (part : List Named) (one : Named) (place : PlaceOf Symbol) → IsTheoryPart rules rule values theory b part
      → IsMember part one → IsMember one.1 place → (theory.name ≡ one.0) × IsTuple (IsPossible rules) rule values theory place
  theory_part rule values theory true part one place is m k = at (subst (λ p. IsMember p one) is.2 m)
    where
      at : IsMember ((theory.name, is.0) ∷ []) one → (theory.name ≡ one.0) × IsTuple (IsPossible rules) rule values theory place
      at (inl e) = (sym (ap (λ o. o.0) e), (is.1.all place).0 (subst (λ o. IsMember o place) (ap (λ o. o.1) e) k))
      at (inr n) = absurd n
  theory_part rule values theory false part one place is m k = absurd (subst (λ p. IsMember p one) is m)

  abbrev IsHeadTuple : ReadRule → List Value → ReadHead → PlaceOf Symbol → Type 0
  IsHeadTuple rule values head place = (theory : ReadTheory) × (head ≡ ReadDuty theory) × (theory.name ≡ directive) × IsTuple (IsPossible rules) rule values theory place

  head_part : (rule : ReadRule) (values : List Value) (head : ReadHead) (part : List Named) (one : Named) (place : PlaceOf Symbol) → IsHeadPart rules rule values head part
      → IsMember part one → IsMember (places_of one) place → IsHeadTuple rule values head place
  head_part rule values (ReadDuty theory) part one place is m k =
      let n = named one place k in
      let t = theory_part rule values theory (is_directive theory.name) part one place is m n.1 in
      (theory, refl, t.0 ∙ sym n.0, t.1)
  head_part rule values ReadNothing part one place is m k = absurd (subst (λ p. IsMember p one) is m)
  head_part rule values (ReadAtom term) part one place is m k = absurd (subst (λ p. IsMember p one) is m)
  head_part rule values (ReadChoose left elements right) part one place is m k = absurd (subst (λ p. IsMember p one) is m)

  has_theory : is_directive directive ≡ true → (rule : ReadRule) (values : List Value) (theory : ReadTheory) (b : Bool) (part : List Named) (place : PlaceOf Symbol) → is_directive theory.name ≡ b
      → IsTheoryPart rules rule values theory b part → theory.name ≡ directive → IsTuple (IsPossible rules) rule values theory place
      → (one : Named) × IsMember part one × IsMember (places_of one) place
  has_theory d rule values theory true part place e is n t =
      ((theory.name, is.0), subst (λ p. IsMember p (theory.name, is.0)) (sym is.2) (inl refl), to_named d (theory.name, is.0) place (sym n) ((is.1.all place).1 t))
  has_theory d rule values theory false part place e is n t = absurd (true≢false (sym d ∙ ap is_directive (sym n) ∙ e))

pub directed_law : DirectedLaw
directed_law rules keys parts listed z directive d place = (
  λ m.
      let o = flat_from (places_of rules directive) (joined parts) place m in
      let p = joined_from parts o.0 o.1 in
      let k = zip_key (IsDirectivePart rules) keys parts p.0 z p.1 in
      let t = head_part rules directive k.2.0 k.0.values k.2.0.head p.0 o.0 place k.2.2 p.2 o.2 in
      (k.0, k.2.0, t.0, record { relevant = k.2.1; head = t.1; name = t.2; tuple = t.3 }),
  λ v.
      let p = zip_part (IsDirectivePart rules) keys parts v.0 z ((listed v.0).1 (v.1, v.3.relevant)) in
      let same : p.2.0 ≡ v.1 = some_one (slice_get rules v.0.place) p.2.0 v.1 p.2.1.place v.3.relevant.place in
      let part = subst (λ r. IsHeadPart rules r v.0.values r.head p.0) same p.2.2 in
      let at = subst (λ h. IsHeadPart rules v.1 v.0.values h p.0) v.3.head part in
      let h = has_theory rules directive d v.1 v.0.values v.2 (is_directive v.2.name) p.0 place refl at v.3.name v.3.tuple in
      flat_to (places_of rules directive) (joined parts) h.0 place (joined_to parts p.0 h.0 p.1 h.1) h.2,
)
