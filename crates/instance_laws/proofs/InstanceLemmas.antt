-- The rules that relevant instances give.
use Rattle.std.proofs.Common.{◌≡◌, inl, inr, Bool, true, false, List, [], ◌∷◌, ◌++◌, map, slice_get, refl, sym, ap, ◌∙◌, subst, true≢false}
use Rattle.std.specs.List.{AllZip}
use Rattle.std.specs.declared.cmp.Ordering.TheVariants.{Less}
use Rattle.ground_model.specs.Members.{IsMember}
use Rattle.ground_model.specs.Rule.{RuleOf}
use Rattle.ground_model.proofs.MemberLemmas.{property_member, property_from_members, member_map, map_member}
use Rattle.symbols.specs.Symbol.{Symbol}
use Rattle.program_meaning.specs.Read.{ReadRule}
use Rattle.program_meaning.specs.Ascending.{Ascends}
use Rattle.program_meaning.specs.Ground.{directs, IsInstanceAs, GivesRule}
use Rattle.program_meaning.specs.Substitution.{Key, key_cmp}
use Rattle.program_meaning.proofs.Lists.{some_one}
use Rattle.instance_laws.specs.Making.{GivesPart, IsPartOf, joined}
use Rattle.instance_laws.specs.Laws.{InstancesLaw}
use Rattle.instance_laws.proofs.Zips.{zip_part, zip_key, joined_to, joined_from}

abbrev Instance : Type 0
Instance = Key × RuleOf Symbol Symbol

abbrev key_of : Instance → Key
key_of instance = instance.0

module _ (rules : List ReadRule) where
  -- an instance of a part is one at its key that gives a rule
  in_part : (key : Key) (part : List Instance) (instance : Instance) → IsPartOf rules key part → IsMember part instance
      → (instance.0 ≡ key) × IsInstanceAs rules instance.0 instance.1 × GivesRule rules instance.0
  in_part key part instance is m = go (directs is.0.head) refl is.2
    where
      go : (b : Bool) → directs is.0.head ≡ b → GivesPart rules key b part → (instance.0 ≡ key) × IsInstanceAs rules instance.0 instance.1 × GivesRule rules instance.0
      go true e g = absurd (subst (λ p. IsMember p instance) g m)
      go false e g = at (subst (λ p. IsMember p instance) g.2 m)
        where
          at : IsMember ((key, g.0) ∷ []) instance → (instance.0 ≡ key) × IsInstanceAs rules instance.0 instance.1 × GivesRule rules instance.0
          at (inl s) =
              let same : instance.0 ≡ key = ap key_of s in (
                same,
                subst (λ i. IsInstanceAs rules (key_of i) i.1) (sym s) g.1,
                subst (GivesRule rules) (sym same) (is.0, is.1, e),
              )
          at (inr n) = absurd n

  -- and the part of a key that gives a rule has one
  has_part : (key : Key) (part : List Instance) → IsPartOf rules key part → GivesRule rules key → (made : RuleOf Symbol Symbol) × IsMember part (key, made)
  has_part key part is gives = go (directs is.0.head) refl is.2
    where
      same : gives.0 ≡ is.0
      same = some_one (slice_get rules key.place) gives.0 is.0 gives.1.place is.1.place

      go : (b : Bool) → directs is.0.head ≡ b → GivesPart rules key b part → (made : RuleOf Symbol Symbol) × IsMember part (key, made)
      go true e g = absurd (true≢false (sym e ∙ ap (λ r. directs r.head) (sym same) ∙ gives.2))
      go false e g = (g.0, subst (λ p. IsMember p (key, g.0)) (sym g.2) (inl refl))

  sub_ascends : (keys : List Key) (parts : List (List Instance)) → Ascends key_cmp keys → AllZip (IsPartOf rules) keys parts → Ascends key_cmp (map key_of (joined parts))
  sub_ascends [] [] a z = tt
  sub_ascends [] (part ∷ parts) a z = absurd z
  sub_ascends (key ∷ keys) [] a z = absurd z
  sub_ascends (key ∷ keys) (part ∷ parts) a z = go (directs z.0.0.head) z.0.2 (sub_ascends keys parts a.1 z.1)
    where
      later : (other : Key) → IsMember (map key_of (joined parts)) other → key_cmp key other ≡ Less
      later other m =
          let i = map_member key_of (joined parts) other m in
          let p = joined_from parts i.0 i.1 in
          let k = zip_key (IsPartOf rules) keys parts p.0 z.1 p.1 in
          let at = in_part k.0 p.0 i.0 k.2 p.2 in
          let same : k.0 ≡ other = sym at.0 ∙ sym i.2 in
          property_member (λ y. key_cmp key y ≡ Less) keys other a.0 (subst (IsMember keys) same k.1)

      go : (b : Bool) → GivesPart rules key b part → Ascends key_cmp (map key_of (joined parts)) → Ascends key_cmp (map key_of (part ++ joined parts))
      go true g rec = subst (λ p. Ascends key_cmp (map key_of (p ++ joined parts))) (sym g) rec
      go false g rec =
          subst (λ p. Ascends key_cmp (map key_of (p ++ joined parts))) (sym g.2)
          (property_from_members (λ y. key_cmp key y ≡ Less) (map key_of (joined parts)) later, rec)

pub instances_law : InstancesLaw
instances_law rules keys parts listed z = record {
  listed = record {
    ascend = sub_ascends rules keys parts listed.ascend z;
    all = λ key. (
      λ m.
          let i = map_member key_of (joined parts) key m in
          let p = joined_from parts i.0 i.1 in
          let k = zip_key (IsPartOf rules) keys parts p.0 z p.1 in
          let at = in_part rules k.0 p.0 i.0 k.2 p.2 in
          subst (GivesRule rules) (sym i.2) at.2,
      λ gives.
          let p = zip_part (IsPartOf rules) keys parts key z ((listed.all key).1 (gives.0, gives.1)) in
          let h = has_part rules key p.0 p.2 gives in
          member_map key_of (joined parts) (key, h.0) (joined_to parts p.0 (key, h.0) p.1 h.1),
    );
  };
  each =
      property_from_members (λ instance. IsInstanceAs rules instance.0 instance.1) (joined parts)
      (λ instance m.
      let p = joined_from parts instance m in
      let k = zip_key (IsPartOf rules) keys parts p.0 z p.1 in
      (in_part rules k.0 p.0 instance k.2 p.2).1);
}
