-- What the binding rules give is what literals bind.
use Rattle.std.proofs.Common.{◌≡◌, inl, inr, ℕ, zero, suc, Bool, true, false, List, ◌++◌, map, Option, None, Some, refl, sym, ap, ◌∙◌, subst}
use Rattle.std.specs.List.{flat_map, AllByRecursion}
use Rattle.symbols.specs.declared.rel.Rel.TheVariants as rel
use Rattle.syntax_tree.specs.declared.term.Term.{Term}
use Rattle.ground_model.specs.Members.{IsMember}
use Rattle.ground_model.proofs.MemberLemmas.{property_member, property_from_members, property_map, member_map, map_member, member_contains, contains_member}
use Rattle.definite_rules.specs.Rule.{DefiniteRule}
use Rattle.definite_rules.specs.Least.{Derivable, IsLeastModel}
use Rattle.program_meaning.specs.Read.{PlainLiteral, PlainAtom, PlainCompare}
use Rattle.program_meaning.specs.Variables.{plain_variable}
use Rattle.program_meaning.specs.Safety.{AllIn, Binds, BoundAt}
use Rattle.variable_safety.specs.inner.Occurring.{variables_in, outside_in}
use Rattle.variable_safety.specs.inner.Binding.{fact, rules_at, side_rules, equation_rules, binding_rules, AreBound}
use Rattle.variable_safety.proofs.Lists.{listed, is_listed, member_append, member_left, member_right, member_flat, flat_member}
use Rattle.variable_safety.proofs.Occurs.{occurs_is, outside_is}

-- ONE LITERAL

side_binds : (P : ℕ → Type 0) (side other : Term) (rule : DefiniteRule) → IsMember (side_rules side other) rule → AllByRecursion P rule.body
    → (plain_variable side ≡ Some rule.head) × AllIn P other
side_binds P side other rule m all = by_side (plain_variable side) refl m
  where
    by_side : (o : Option ℕ) → plain_variable side ≡ o → IsMember (rules_at o (variables_in other)) rule → (plain_variable side ≡ Some rule.head) × AllIn P other
    by_side None e m = absurd m
    by_side (Some n) e (inl p) = (
      e ∙ ap Some (ap (λ (r : DefiniteRule). r.head) (sym p)),
      λ k o. property_member P (variables_in other) k (subst (λ (r : DefiniteRule). AllByRecursion P r.body) p all)
          (listed k (variables_in other) (sym (occurs_is k other) ∙ o)),
    )
    by_side (Some n) e (inr m) = absurd m

rule_binds : (P : ℕ → Type 0) (literal : PlainLiteral) (rule : DefiniteRule) → IsMember (binding_rules literal) rule → AllByRecursion P rule.body
    → Binds P literal rule.head
rule_binds P (PlainAtom term true) rule m all =
    let r = map_member fact (outside_in term) rule m in
    outside_is rule.head term ∙ is_listed rule.head (outside_in term) (subst (IsMember (outside_in term)) (sym (ap (λ (r : DefiniteRule). r.head) r.2)) r.1)
rule_binds P (PlainAtom term false) rule m all = absurd m
rule_binds P (PlainCompare left rel.Equal right) rule m all = (
  refl,
  elim (member_append (side_rules left right) (side_rules right left) rule m) [
    | inl k ↦ inl (side_binds P left right rule k all)
    | inr k ↦ inr (side_binds P right left rule k all)
  ],
)
rule_binds P (PlainCompare left rel.NotEqual right) rule m all = absurd m
rule_binds P (PlainCompare left rel.Less right) rule m all = absurd m
rule_binds P (PlainCompare left rel.LessEqual right) rule m all = absurd m
rule_binds P (PlainCompare left rel.Greater right) rule m all = absurd m
rule_binds P (PlainCompare left rel.GreaterEqual right) rule m all = absurd m

abbrev Ruled : (ℕ → Type 0) → List DefiniteRule → ℕ → Type 0
Ruled P rules n = (rule : DefiniteRule) × IsMember rules rule × (rule.head ≡ n) × AllByRecursion P rule.body

side_ruled : (P : ℕ → Type 0) (side other : Term) (n : ℕ) → plain_variable side ≡ Some n → AllIn P other → Ruled P (side_rules side other) n
side_ruled P side other n e all = (
  record { head = n; body = variables_in other },
  subst (λ o. IsMember (rules_at o (variables_in other)) (record { head = n; body = variables_in other })) (sym e) (inl refl),
  refl,
  property_from_members P (variables_in other) (λ k m. all k (occurs_is k other ∙ is_listed k (variables_in other) m)),
)

binds_ruled : (P : ℕ → Type 0) (literal : PlainLiteral) (n : ℕ) → Binds P literal n → Ruled P (binding_rules literal) n
binds_ruled P (PlainAtom term true) n b = (
  fact n,
  member_map fact (outside_in term) n (listed n (outside_in term) (sym (outside_is n term) ∙ b)),
  refl,
  tt,
)
binds_ruled P (PlainAtom term false) n b = absurd b
binds_ruled P (PlainCompare left r right) n b =
    let both : Ruled P (side_rules left right ++ side_rules right left) n = elim b.1 [
      | inl k ↦ (let s = side_ruled P left right n k.0 k.1 in (s.0, member_left (side_rules left right) (side_rules right left) s.0 s.1, s.2, s.3))
      | inr k ↦ (let s = side_ruled P right left n k.0 k.1 in (s.0, member_right (side_rules left right) (side_rules right left) s.0 s.1, s.2, s.3))
    ] in
    subst (λ v. Ruled P (equation_rules v left right) n) (sym b.0) both

-- ALL LITERALS

abbrev all_rules : List ℕ → List PlainLiteral → List DefiniteRule
all_rules given literals = map fact given ++ flat_map binding_rules literals

derived_bound : (given : List ℕ) (literals : List PlainLiteral) (rank n : ℕ) → Derivable (all_rules given literals) rank n
    → BoundAt (IsMember given) literals rank n
derived_bound given literals zero n d = absurd d
derived_bound given literals (suc rank) n d =
    let P : ℕ → Type 0 = BoundAt (IsMember given) literals rank in
    let below : AllByRecursion P d.0.body = property_map (Derivable (all_rules given literals) rank) P (derived_bound given literals rank) d.0.body d.3 in
    elim (member_append (map fact given) (flat_map binding_rules literals) d.0 (contains_member (all_rules given literals) d.0 d.1)) [
      | inl m ↦ (
          let r = map_member fact given d.0 m in
          inl (subst (IsMember given) (sym (ap (λ (r : DefiniteRule). r.head) r.2) ∙ d.2) r.1))
      | inr m ↦ (
          let f = member_flat binding_rules literals d.0 m in
          inr (f.0, f.1, subst (Binds P f.0) d.2 (rule_binds P f.0 d.0 f.2 below)))
    ]

given_derived : (given : List ℕ) (literals : List PlainLiteral) (rank n : ℕ) → IsMember given n → Derivable (all_rules given literals) (suc rank) n
given_derived given literals rank n m = (
  fact n,
  member_contains (all_rules given literals) (fact n) (member_left (map fact given) (flat_map binding_rules literals) (fact n) (member_map fact given n m)),
  refl,
  tt,
)

bound_derived : (given : List ℕ) (literals : List PlainLiteral) (rank n : ℕ) → BoundAt (IsMember given) literals rank n
    → Derivable (all_rules given literals) (suc rank) n
bound_derived given literals zero n b = given_derived given literals zero n b
bound_derived given literals (suc rank) n (inl m) = given_derived given literals (suc rank) n m
bound_derived given literals (suc rank) n (inr b) =
    let P : ℕ → Type 0 = BoundAt (IsMember given) literals rank in
    let s = binds_ruled P b.0 n b.2 in (
      s.0,
      member_contains (all_rules given literals) s.0
          (member_right (map fact given) (flat_map binding_rules literals) s.0 (flat_member binding_rules literals b.0 s.0 b.1 s.1)),
      s.2,
      property_map P (Derivable (all_rules given literals) (suc rank)) (bound_derived given literals rank) s.0.body s.3,
    )

pub bound_flags : (given : List ℕ) (literals : List PlainLiteral) (flags : List Bool) → IsLeastModel (map fact given ++ flat_map binding_rules literals) flags
    → AreBound given literals flags
bound_flags given literals flags h = record {
  sound = λ n e. let d = h.derived n e in (d.0, derived_bound given literals d.0 n d.1);
  whole = λ n b. h.closed n (suc b.0) (bound_derived given literals b.0 n b.1);
}

-- what is given may be said in two ways
literal_binds : (P Q : ℕ → Type 0) → ((n : ℕ) → P n → Q n) → (literal : PlainLiteral) (n : ℕ) → Binds P literal n → Binds Q literal n
literal_binds P Q f (PlainAtom term true) n b = b
literal_binds P Q f (PlainAtom term false) n b = absurd b
literal_binds P Q f (PlainCompare left r right) n b =
    (b.0, elim b.1 [ inl k ↦ inl (k.0, λ m o. f m (k.1 m o)) | inr k ↦ inr (k.0, λ m o. f m (k.1 m o)) ])

pub bound_from : (P Q : ℕ → Type 0) → ((n : ℕ) → P n → Q n) → (literals : List PlainLiteral) (rank n : ℕ) → BoundAt P literals rank n → BoundAt Q literals rank n
bound_from P Q f literals zero n b = f n b
bound_from P Q f literals (suc rank) n (inl p) = inl (f n p)
bound_from P Q f literals (suc rank) n (inr b) =
    inr (b.0, b.1, literal_binds (BoundAt P literals rank) (BoundAt Q literals rank) (bound_from P Q f literals rank) b.0 n b.2)
