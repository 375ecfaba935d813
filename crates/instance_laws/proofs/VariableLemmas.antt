-- The integer variables of collected theory atoms.
use Rattle.std.proofs.Common.{◌≡◌, inl, inr, ◌⊎◌, List, [], ◌∷◌, ◌++◌, Option, None, Some, Some, slice_get, refl, sym, ◌∙◌, subst}
use Rattle.symbols.specs.declared.rel.Rel.{Rel}
use Rattle.symbols.specs.Symbol.{Symbol}
use Rattle.syntax_tree.specs.declared.literal.Guard.{Guard}
use Rattle.syntax_tree.specs.declared.literal.TheoryName.{TheoryName}
use Rattle.syntax_tree.specs.declared.literal.TheoryName.TheVariants as name
use Rattle.syntax_tree.specs.Outcome.{Outcome}
use Rattle.ground_model.specs.Members.{IsMember, IsListOf}
use Rattle.ground_model.specs.Rule.{LinearOf}
use Rattle.ground_model.proofs.MemberLemmas.{member_map, map_member}
use Rattle.program_meaning.specs.Read.{ReadTheory, ReadRule}
use Rattle.program_meaning.specs.Instance.{bound_in, IsPossible}
use Rattle.program_meaning.specs.Substitution.{Value}
use Rattle.program_meaning.specs.Tuples.{theories, OccursInForm, OccursInGuard, IsTupleVariable}
use Rattle.program_meaning.proofs.Lists.{append_left, append_right, append_from, flat_to, flat_from, some_one}
use Rattle.theory_laws.specs.Collecting.{IsGuard}
use Rattle.instance_laws.specs.Making.{Form, IsForm, linear_variables, place_variables, guard_variables, form_variables, all_variables, OccursIn, OccursInSome, AreVariablesAt}
use Rattle.instance_laws.specs.Laws.{AtomVariablesLaw, InstanceVariablesLaw, ProgramVariablesLaw}
use Rattle.instance_laws.proofs.Zips.{zip_part, zip_key, joined_to, joined_from}

-- LINEAR TERMS

linear_to : (linear : LinearOf Symbol) (x : Symbol) → OccursInForm x linear → IsMember (linear_variables linear) x
linear_to linear x occurs = member_map (λ pair. pair.0) linear.pairs (x, occurs.0) occurs.1

linear_from : (linear : LinearOf Symbol) (x : Symbol) → IsMember (linear_variables linear) x → OccursInForm x linear
linear_from linear x m =
    let r = map_member (λ pair. pair.0) linear.pairs x m in
    (r.0.1, subst (IsMember linear.pairs) (λ i. (sym r.2 i, r.0.1)) r.1)

-- GUARDS

guard_to : (bound : List Outcome) (guard : Option Guard) (found : Option (Rel × LinearOf Symbol)) (x : Symbol) → IsGuard bound guard found → OccursInGuard bound guard x → IsMember (guard_variables found) x
guard_to bound None None x g occurs = absurd occurs
guard_to bound None (Some found) x g occurs = absurd g
guard_to bound (Some guard) None x g occurs = absurd g
guard_to bound (Some guard) (Some found) x g occurs =
    let same : occurs.0 ≡ found.1 = sym occurs.1.same ∙ g.1.same in
    linear_to found.1 x (subst (OccursInForm x) same occurs.2)

guard_from : (bound : List Outcome) (guard : Option Guard) (found : Option (Rel × LinearOf Symbol)) (x : Symbol) → IsGuard bound guard found → IsMember (guard_variables found) x → OccursInGuard bound guard x
guard_from bound None None x g m = absurd m
guard_from bound None (Some found) x g m = absurd g
guard_from bound (Some guard) None x g m = absurd g
guard_from bound (Some guard) (Some found) x g m = (found.1, g.1, linear_from found.1 x m)

-- THEORY ATOMS

module _ (rules : List ReadRule) (rule : ReadRule) (values : List Value) (theory : ReadTheory) (form : Form) (is : IsForm rules rule values theory form) where
  tuples_to : (theory.name ≡ name.Dom → ⊥) → (x : Symbol) → IsTupleVariable (IsPossible rules) rule values theory x → IsMember (place_variables form.places) x
  tuples_to other x v = flat_to (λ place. linear_variables place.linear) form.places v.1.0 x (((is.tuples other).all v.1.0).1 v.1.1) (linear_to v.1.0.linear x v.1.2)

  tuples_from : (theory.name ≡ name.Dom → ⊥) → (x : Symbol) → IsMember (place_variables form.places) x → IsTupleVariable (IsPossible rules) rule values theory x
  tuples_from other x m =
      let r = flat_from (λ place. linear_variables place.linear) form.places x m in
      (other, (r.0, ((is.tuples other).all r.0).0 r.1, linear_from r.0.linear x r.2))

  others : (theory.name ≡ name.Dom → ⊥) → IsListOf (OccursIn rules rule values theory) (place_variables form.places ++ guard_variables form.guard)
  others other x = (λ m. from (append_from (place_variables form.places) (guard_variables form.guard) x m), λ o. to o)
    where
      from : IsMember (place_variables form.places) x ⊎ IsMember (guard_variables form.guard) x → OccursIn rules rule values theory x
      from (inl m) = inl (tuples_from other x m)
      from (inr m) = inr (guard_from (bound_in rule values) theory.guard form.guard x is.guard m)

      to : OccursIn rules rule values theory x → IsMember (place_variables form.places ++ guard_variables form.guard) x
      to (inl v) = append_left (place_variables form.places) (guard_variables form.guard) x (tuples_to other x v)
      to (inr o) = append_right (place_variables form.places) (guard_variables form.guard) x (guard_to (bound_in rule values) theory.guard form.guard x is.guard o)

  domain : theory.name ≡ name.Dom → IsListOf (OccursIn rules rule values theory) (guard_variables form.guard)
  domain e x = (λ m. inr (guard_from (bound_in rule values) theory.guard form.guard x is.guard m), λ o. to o)
    where
      to : OccursIn rules rule values theory x → IsMember (guard_variables form.guard) x
      to (inl v) = absurd (v.0 e)
      to (inr o) = guard_to (bound_in rule values) theory.guard form.guard x is.guard o

  apart : (kind other : TheoryName) → theory.name ≡ kind → (kind ≡ other → ⊥) → theory.name ≡ other → ⊥
  apart kind other e n f = n (sym e ∙ f)

  by_name : (kind : TheoryName) → theory.name ≡ kind → (theory.name ≡ name.Show → ⊥) → IsListOf (OccursIn rules rule values theory) (form_variables kind form)
  by_name name.Show e shown = absurd (shown e)
  by_name name.Dom e shown = domain e
  by_name name.Sum e shown = others (apart name.Sum name.Dom e (λ f. differ f))
    where
      differ : name.Sum ≡ name.Dom → ⊥
      differ f = cc
  by_name name.Diff e shown = others (apart name.Diff name.Dom e (λ f. differ f))
    where
      differ : name.Diff ≡ name.Dom → ⊥
      differ f = cc
  by_name name.Distinct e shown = others (apart name.Distinct name.Dom e (λ f. differ f))
    where
      differ : name.Distinct ≡ name.Dom → ⊥
      differ f = cc
  by_name name.Disjoint e shown = others (apart name.Disjoint name.Dom e (λ f. differ f))
    where
      differ : name.Disjoint ≡ name.Dom → ⊥
      differ f = cc
  by_name name.Minimize e shown = others (apart name.Minimize name.Dom e (λ f. differ f))
    where
      differ : name.Minimize ≡ name.Dom → ⊥
      differ f = cc
  by_name name.Maximize e shown = others (apart name.Maximize name.Dom e (λ f. differ f))
    where
      differ : name.Maximize ≡ name.Dom → ⊥
      differ f = cc
  by_name name.Unknown e shown = others (apart name.Unknown name.Dom e (λ f. differ f))
    where
      differ : name.Unknown ≡ name.Dom → ⊥
      differ f = cc

pub atom_variables_law : AtomVariablesLaw
atom_variables_law rules rule values theory form is shown = by_name rules rule values theory form is theory.name refl shown

-- INSTANCES

is_show : (kind : TheoryName) → (kind ≡ name.Show) ⊎ (kind ≡ name.Show → ⊥)
is_show name.Show = inl refl
is_show name.Sum = inr (λ e. cc)
is_show name.Diff = inr (λ e. cc)
is_show name.Distinct = inr (λ e. cc)
is_show name.Disjoint = inr (λ e. cc)
is_show name.Dom = inr (λ e. cc)
is_show name.Minimize = inr (λ e. cc)
is_show name.Maximize = inr (λ e. cc)
is_show name.Unknown = inr (λ e. cc)

pub instance_variables_law : InstanceVariablesLaw
instance_variables_law rules rule values [] [] z x = (λ m. absurd m, λ o. o.1)
instance_variables_law rules rule values [] (form ∷ forms) z x = absurd z
instance_variables_law rules rule values (theory ∷ all) [] z x = absurd z
instance_variables_law rules rule values (theory ∷ all) (form ∷ forms) z x =
    let rest = instance_variables_law rules rule values all forms z.1 x in
    let here = is_show theory.name in
    (λ m. from here (append_from (form_variables theory.name form) (all_variables all forms) x m) rest.0, λ o. to o.0 o.1 o.2 o.3 rest.1)
  where
    none : theory.name ≡ name.Show → IsMember (form_variables theory.name form) x → ⊥
    none e m = subst (λ kind. IsMember (form_variables kind form) x) e m

    from : (theory.name ≡ name.Show) ⊎ (theory.name ≡ name.Show → ⊥) → IsMember (form_variables theory.name form) x ⊎ IsMember (all_variables all forms) x
        → (IsMember (all_variables all forms) x → OccursInSome rules rule values all x) → OccursInSome rules rule values (theory ∷ all) x
    from (inl e) (inl m) rec = absurd (none e m)
    from (inr n) (inl m) rec = (theory, inl refl, n, (atom_variables_law rules rule values theory form z.0 n x).0 m)
    from here (inr m) rec = let o = rec m in (o.0, inr o.1, o.2, o.3)

    to : (other : ReadTheory) → IsMember (theory ∷ all) other → (other.name ≡ name.Show → ⊥) → OccursIn rules rule values other x
        → (OccursInSome rules rule values all x → IsMember (all_variables all forms) x) → IsMember (form_variables theory.name form ++ all_variables all forms) x
    to other (inl e) n o rec =
        append_left (form_variables theory.name form) (all_variables all forms) x
        ((atom_variables_law rules rule values theory form z.0 (subst (λ t. t.name ≡ name.Show → ⊥) e n) x).1 (subst (λ t. OccursIn rules rule values t x) e o))
    to other (inr m) n o rec = append_right (form_variables theory.name form) (all_variables all forms) x (rec (other, m, n, o))

-- PROGRAMS

pub program_variables_law : ProgramVariablesLaw
program_variables_law rules keys parts listed z x = (
  λ m.
      let p = joined_from parts x m in
      let k = zip_key (AreVariablesAt rules) keys parts p.0 z p.1 in
      let o = (k.2.2 x).0 p.2 in
      (k.0, k.2.0, o.0, record { relevant = k.2.1; member = o.1; other = o.2; occurs = o.3 }),
  λ v.
      let p = zip_part (AreVariablesAt rules) keys parts v.0 z ((listed v.0).1 (v.1, v.3.relevant)) in
      let same : v.1 ≡ p.2.0 = some_one (slice_get rules v.0.place) v.1 p.2.0 v.3.relevant.place p.2.1.place in
      let o = subst (λ r. OccursInSome rules r v.0.values (theories r) x) same (v.2, v.3.member, v.3.other, v.3.occurs) in
      joined_to parts p.0 x p.1 ((p.2.2 x).1 o),
)
