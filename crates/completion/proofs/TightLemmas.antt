-- A program is tight exactly where every atom is derived once all that it waits for is.
use Rattle.std.proofs.Common.{◌≡◌, ◌↔◌, ℕ, zero, suc, ◌+◌, ◌<◌, ◌≤◌, Bool, true, false, cond, ◌==◌, inl, inr, List, [], ◌∷◌, map, length, flat_map, Option, Some, None, refl, sym, ◌∙◌, ap, subst, eqb-true, arith, All}
use Rattle.std.specs.List.{AllByRecursion, range_with_len}
use Rattle.std.proofs.lemmas.List.{get_or_default}
use Rattle.std.proofs.lemmas.List.Elements.{recursion_from_All, All-from_recursion}
use Rattle.literals.specs.declared.lit.Lit.{Lit}
use Rattle.literals.specs.declared.lit.Lit.TheVariants as l
use Rattle.definite_rules.specs.Rule.{DefiniteRule}
use Rattle.definite_rules.specs.Rule.{IsBelow as IsBelowCount}
use Rattle.definite_rules.specs.Least.{Derivable, flag_at, IsLeastModel, IsClosed, IsLeastClosed}
use Rattle.definite_rules.proofs.LeastLemmas.{one_rank}
use Rattle.ground_model.specs.declared.program.GroundProgram.{GroundProgram}
use Rattle.ground_model.specs.declared.rule.BodyLit.{BodyLit}
use Rattle.ground_model.specs.declared.rule.BodyLit.TheVariants as b
use Rattle.ground_model.specs.Answers.{IsNumbered}
use Rattle.ground_model.specs.Members.{IsMember}
use Rattle.ground_model.specs.Sizes.{IsReadable}
use Rattle.ground_model.proofs.MemberLemmas.{same_nat, property_member, property_from_members, member_map, map_member, member_contains, contains_member}
use Rattle.ground_model.proofs.WayLemmas.{flat_member, member_flat}
use Rattle.linear_normal.specs.declared.numbered.Conjunction.{Conjunction}
use Rattle.linear_normal.specs.declared.numbered.Support.{Support}
use Rattle.linear_normal.specs.declared.numbered.Numbered.{Numbered}
use Rattle.linear_normal.specs.Numbering.{lit_of, conjunction_of, contents_in, numbering}
use Rattle.linear_normal.specs.Truth.{numbered_in}
use Rattle.linear_normal.proofs.BodyLemmas.{support_way}
use Rattle.linear_normal.proofs.ListLemmas.{all_map, range_member, member_range}
use Rattle.linear_normal.proofs.TruthLemmas.{conjunction_at}
use Rattle.completion.specs.inner.Parts.{IsSupport}
use Rattle.completion.specs.Tight.{IsBelow, AreBelow, IsTight}
use Rattle.completion.specs.inner.Waits.{positive_atom, positive_atoms, waits_by, waits_of, waiting_rule, waiting_rules, IsSupportBelow}
use Rattle.completion.proofs.RuleLemmas.{bodies_have, known_supports}

-- RANKS AND DERIVATIONS

module _ (waits : ℕ → List ℕ) (count : ℕ) where
  abbrev rule : ℕ → DefiniteRule
  rule a = record { head = a; body = waits a }

  abbrev rules : List DefiniteRule
  rules = map rule (range_with_len 0 count)

  derived_body : (rank a : ℕ) → Derivable rules (suc rank) a → AllByRecursion (Derivable rules rank) (waits a)
  derived_body rank a d =
      let m = map_member rule (range_with_len 0 count) d.0 (contains_member rules d.0 d.1) in
      let same : m.0 ≡ a = sym (ap (λ (r : DefiniteRule). r.head) m.2) ∙ d.2 in
      subst (λ x. AllByRecursion (Derivable rules rank) (waits x)) same (subst (λ (r : DefiniteRule). AllByRecursion (Derivable rules rank) r.body) m.2 d.3)

  abbrev total : List ℕ → ℕ
  total [] = 0
  total (n ∷ ns) = n + total ns

  -- one more than all heights of what it waits for together
  abbrev height : ℕ → ℕ → ℕ
  height zero a = 0
  height (suc n) a = suc (total (map (height n) (waits a)))

  -- an atom that is derived at a rank has the same height from this rank on
  height_same : (rank n m a : ℕ) → rank ≤ n → rank ≤ m → Derivable rules rank a → height n a ≡ height m a
  height_same zero n m a h k d = absurd d
  height_same (suc rank) zero m a h k d = absurd (omega (arith, h))
  height_same (suc rank) (suc n) zero a h k d = absurd (omega (arith, k))
  height_same (suc rank) (suc n) (suc m) a h k d = ap suc (same (waits a) (derived_body rank a d) (λ b. height_same rank n m b (omega (arith, h)) (omega (arith, k))))
    where
      same : (xs : List ℕ) → AllByRecursion (Derivable rules rank) xs → ((b : ℕ) → Derivable rules rank b → height n b ≡ height m b) → total (map (height n) xs) ≡ total (map (height m) xs)
      same [] all rec = refl
      same (x ∷ xs) all rec = let e = rec x all.0 in let f = same xs all.1 rec in omega (arith, e, f)

  -- what an atom waits for has a smaller height
  height_lower : (rank a b : ℕ) → Derivable rules rank a → IsMember (waits a) b → height rank b < height rank a
  height_lower zero a b d m = absurd d
  height_lower (suc rank) a b d m =
      let e = height_same rank (suc rank) rank b (omega arith) (omega arith) (property_member (Derivable rules rank) (waits a) b (derived_body rank a d) m) in
      let k = within (waits a) m in
      omega (arith, e, k)
    where
      within : (xs : List ℕ) → IsMember xs b → height rank b ≤ total (map (height rank) xs)
      within [] m = absurd m
      within (x ∷ xs) (inl e) = let f = ap (height rank) e in omega (arith, f)
      within (x ∷ xs) (inr m) = let k = within xs m in omega (arith, k)

  -- where all are flagged, they have heights at one rank
  pub ranked : (flags : List Bool) → IsLeastModel rules flags → ((a : ℕ) → a < count → flag_at flags a ≡ true) → (rank : ℕ → ℕ) × ((a b : ℕ) → a < count → IsMember (waits a) b → rank b < rank a)
  ranked flags model all =
      let one = one_rank rules (range_with_len 0 count)
      (property_from_members (λ a. (rank : ℕ) × Derivable rules rank a) (range_with_len 0 count) (λ a m. model.derived a (all a (below a m)))) in
      (height one.0, λ a b h m. height_lower one.0 a b (property_member (Derivable rules one.0) (range_with_len 0 count) a one.1 (range_member 0 count a (omega arith) (omega (arith, h)))) m)
    where
      below : (a : ℕ) → IsMember (range_with_len 0 count) a → a < count
      below a m = let r = member_range 0 count a m in let h = r.1 in omega (arith, h)

  -- where ranks fall, all are flagged
  pub flagged : (flags : List Bool) → IsClosed rules (flag_at flags) → (rank : ℕ → ℕ) → ((a b : ℕ) → a < count → IsMember (waits a) b → (rank b < rank a) × (b < count))
      → (n a : ℕ) → rank a < n → a < count → flag_at flags a ≡ true
  flagged flags closed rank lower zero a h k = absurd (omega (arith, h))
  flagged flags closed rank lower (suc n) a h k =
      closed (rule a) (member_contains rules (rule a) (member_map rule (range_with_len 0 count) a (range_member 0 count a (omega arith) (omega (arith, k)))))
      (property_from_members (λ b. flag_at flags b ≡ true) (waits a) (λ b m.
      let r = lower a b k m in
      let fewer = r.0 in
      flagged flags closed rank lower n b (omega (arith, h, fewer)) r.1))

-- WHAT AN ATOM WAITS FOR

positive_member : (rank : ℕ → ℕ) (above : ℕ) (lits : List Lit) → AllByRecursion (IsBelow rank above) lits → (b : ℕ) → IsMember (flat_map positive_atom lits) b → rank b < above
positive_member rank above lits all b m = let f = flat_member positive_atom lits b m in one f.0 (property_member (IsBelow rank above) lits f.0 all f.1) f.2
  where
    one : (lit : Lit) → IsBelow rank above lit → IsMember (positive_atom lit) b → rank b < above
    one (l.Atom a true) is (inl e) = subst (λ x. rank x < above) (sym e) is
    one (l.Atom a true) is (inr m) = absurd m
    one (l.Atom a false) is m = absurd m
    one (l.Body n sign) is m = absurd m
    one (l.Constraint n sign) is m = absurd m
    one (l.AtMost x k) is m = absurd m
    one (l.AtLeast x k) is m = absurd m

member_positive : (rank : ℕ → ℕ) (above : ℕ) (lits : List Lit) → ((b : ℕ) → IsMember (flat_map positive_atom lits) b → rank b < above) → AllByRecursion (IsBelow rank above) lits
member_positive rank above lits h =
    property_from_members (IsBelow rank above) lits (λ lit m. one lit (λ b k. h b (member_flat positive_atom lits lit b m k)))
  where
    one : (lit : Lit) → ((b : ℕ) → IsMember (positive_atom lit) b → rank b < above) → IsBelow rank above lit
    one (l.Atom a true) f = f a (inl refl)
    one (l.Atom a false) f = tt
    one (l.Body n sign) f = tt
    one (l.Constraint n sign) f = tt
    one (l.AtMost x k) f = tt
    one (l.AtLeast x k) f = tt

below_to : (rank : ℕ → ℕ) (above : ℕ) (body : Option Conjunction) → AreBelow rank above body → (b : ℕ) → IsMember (positive_atoms body) b → rank b < above
below_to rank above None are b m = absurd m
below_to rank above (Some conjunction) are b m = positive_member rank above conjunction.lits are b m

below_from : (rank : ℕ → ℕ) (above : ℕ) (body : Option Conjunction) → ((b : ℕ) → IsMember (positive_atoms body) b → rank b < above) → AreBelow rank above body
below_from rank above None h = tt
below_from rank above (Some conjunction) h = member_positive rank above conjunction.lits h

pub member_wait : (bodies : List Conjunction) (supports : List Support) (a b : ℕ) → IsMember (waits_of bodies supports a) b
    → (support : Support) × IsMember supports support × (support.atom ≡ a) × IsMember (positive_atoms (numbered_in bodies support.body)) b
member_wait bodies supports a b m =
    let f = flat_member (waits_by bodies a) supports b m in
    let r = one f.0 (f.0.atom == a) refl f.2 in
    (f.0, f.1, r.0, r.1)
  where
    one : (s : Support) (t : Bool) → (s.atom == a) ≡ t → IsMember (cond t (positive_atoms (numbered_in bodies s.body)) []) b → (s.atom ≡ a) × IsMember (positive_atoms (numbered_in bodies s.body)) b
    one s true e m = (eqb-true s.atom a e, m)
    one s false e m = absurd m

wait_member : (bodies : List Conjunction) (supports : List Support) (s : Support) (b : ℕ) → IsMember supports s → IsMember (positive_atoms (numbered_in bodies s.body)) b → IsMember (waits_of bodies supports s.atom) b
wait_member bodies supports s b m k =
    member_flat (waits_by bodies s.atom) supports s b m (subst (λ t. IsMember (cond t (positive_atoms (numbered_in bodies s.body)) []) b) (sym (same_nat s.atom s.atom refl)) k)

-- EXACTLY

module _ (numbered : Numbered) (count : ℕ) (atoms_below : (support : Support) → IsMember numbered.supports support → support.atom < count) (waits_below : (a b : ℕ) → IsMember (waits_of numbered.bodies numbered.supports a) b → b < count) where
  abbrev waits : ℕ → List ℕ
  waits = waits_of numbered.bodies numbered.supports

  pub tight_exactly : (flags : List Bool) → length flags ≡ count → IsLeastModel (waiting_rules numbered.bodies numbered.supports count) flags
      → IsLeastClosed (waiting_rules numbered.bodies numbered.supports count) (flag_at flags) → All (λ flag. flag ≡ true) flags ↔ IsTight numbered
  tight_exactly flags size model least = (to, from)
    where
      to : All (λ flag. flag ≡ true) flags → IsTight numbered
      to all =
          let r = ranked waits count flags model (λ a h. all a false (omega (arith, h, size))) in (
            r.0,
            property_from_members (λ support. AreBelow r.0 (r.0 support.atom) (numbered_in numbered.bodies support.body)) numbered.supports (λ s m.
                below_from r.0 (r.0 s.atom) (numbered_in numbered.bodies s.body) (λ b k. r.1 s.atom b (atoms_below s m) (wait_member numbered.bodies numbered.supports s b m k))),
          )

      lower : (tight : IsTight numbered) (a b : ℕ) → a < count → IsMember (waits a) b → (tight.0 b < tight.0 a) × (b < count)
      lower tight a b h m =
          let w = member_wait numbered.bodies numbered.supports a b m in
          let are = property_member (λ support. AreBelow tight.0 (tight.0 support.atom) (numbered_in numbered.bodies support.body)) numbered.supports w.0 tight.1 w.1 in
          (subst (λ x. tight.0 b < tight.0 x) w.2 (below_to tight.0 (tight.0 w.0.atom) (numbered_in numbered.bodies w.0.body) are b w.3), waits_below a b m)

      from : IsTight numbered → All (λ flag. flag ≡ true) flags
      from tight k d h =
          get_or_default flags k d false h ∙ flagged waits count flags least.closed tight.0 (lower tight) (suc (tight.0 k)) k (omega arith) (omega (arith, h, size))

-- WHAT THE ATOMS OF A PROGRAM WAIT FOR

some_known : {X : Type 0} (xs : List X) (n : ℕ) (x : X) → numbered_in xs n ≡ Some x → IsNumbered (length xs) n × IsMember xs x
some_known xs zero x e = absurd (none e)
  where
    none : {X : Type 0} {x : X} → None ≡ Some x → ⊥
    none p = cc
some_known [] (suc n) x e = absurd (none e)
  where
    none : {X : Type 0} {x : X} → None ≡ Some x → ⊥
    none p = cc
some_known (y ∷ xs) (suc zero) x e = (record { above = omega arith; known = omega arith }, inl (sym (here e)))
  where
    here : {X : Type 0} {x y : X} → Some x ≡ Some y → x ≡ y
    here p = cc
some_known (y ∷ xs) (suc (suc n)) x e =
    let r = some_known xs (suc n) x e in
    let is = r.0 in
    let known = is.known in
    (record { above = omega arith; known = omega (arith, known) }, inr r.1)

-- an atom that the literal names is one of so many
abbrev IsKnown : ℕ → Lit → Type 0
IsKnown atoms (l.Atom a sign) = IsNumbered atoms a
IsKnown atoms lit = Unit {0}

positive_known : (atoms : ℕ) (lits : List Lit) → AllByRecursion (IsKnown atoms) lits → (a : ℕ) → IsMember (flat_map positive_atom lits) a → IsNumbered atoms a
positive_known atoms lits all a m = let f = flat_member positive_atom lits a m in one f.0 (property_member (IsKnown atoms) lits f.0 all f.1) f.2
  where
    one : (lit : Lit) → IsKnown atoms lit → IsMember (positive_atom lit) a → IsNumbered atoms a
    one (l.Atom b true) is (inl e) = subst (IsNumbered atoms) (sym e) is
    one (l.Atom b true) is (inr m) = absurd m
    one (l.Atom b false) is m = absurd m
    one (l.Body n sign) is m = absurd m
    one (l.Constraint n sign) is m = absurd m
    one (l.AtMost x k) is m = absurd m
    one (l.AtLeast x k) is m = absurd m

module _ (program : GroundProgram) (numbered : Numbered) (same : numbered ≡ numbering program) where
  -- each support has the body that it names
  support_body : (s : Support) → IsMember (numbering program).supports s → (body : Conjunction) × (numbered_in (numbering program).bodies s.body ≡ Some body)
  support_body s m =
      let w = support_way 1 program.rules s m in
      (conjunction_of (contents_in program) (length program.variables) w.2.body, ap (numbered_in (numbering program).bodies) w.4.body ∙ conjunction_at program w.0 w.1 w.4.place w.2.body w.4.same)

  pub known_supports_in : All (IsSupportBelow (length program.atoms + 1) (length numbered.bodies)) numbered.supports
  known_supports_in = subst (λ (n : Numbered). All (IsSupportBelow (length program.atoms + 1) (length n.bodies)) n.supports) (sym same)
      (All-from_recursion (IsSupportBelow (length program.atoms + 1) (length (numbering program).bodies)) (numbering program).supports
      (property_from_members (IsSupportBelow (length program.atoms + 1) (length (numbering program).bodies)) (numbering program).supports each))
    where
      each : (s : Support) → IsMember (numbering program).supports s → IsSupportBelow (length program.atoms + 1) (length (numbering program).bodies) s
      each s m =
          let is = property_member (IsSupport (length program.atoms)) (numbering program).supports s (recursion_from_All (IsSupport (length program.atoms)) (numbering program).supports (known_supports program (numbering program) refl)) m in
          let atom = is.0 in
          let known = atom.known in
          let body = support_body s m in
          (omega (arith, known), (some_known (numbering program).bodies s.body body.0 body.1).0)

  readable_known : (literal : BodyLit) → IsReadable (length program.atoms) (length program.variables) literal → IsKnown (length program.atoms) (lit_of (contents_in program) (length program.variables) literal)
  readable_known (b.Atom a sign) is = is
  readable_known (b.Theory relation sign) is = tt

  -- an atom waits for atoms of the program alone
  pub known_waits : (a b : ℕ) → IsMember (waits_of numbered.bodies numbered.supports a) b → b < length program.atoms + 1
  known_waits = subst (λ (n : Numbered). (a b : ℕ) → IsMember (waits_of n.bodies n.supports a) b → b < length program.atoms + 1) (sym same) each
    where
      each : (a b : ℕ) → IsMember (waits_of (numbering program).bodies (numbering program).supports a) b → b < length program.atoms + 1
      each a b m =
          let w = member_wait (numbering program).bodies (numbering program).supports a b m in
          let body = support_body w.0 w.1 in
          let there = (some_known (numbering program).bodies w.0.body body.0 body.1).1 in
          let is = positive_known (length program.atoms) body.0.lits
          (property_member (λ (conjunction : Conjunction). AllByRecursion (IsKnown (length program.atoms)) conjunction.lits) (numbering program).bodies body.0 (bodies_have program (IsKnown (length program.atoms)) readable_known) there) b
          (subst (λ o. IsMember (positive_atoms o) b) body.1 w.3) in
          let known = is.known in
          omega (arith, known)

  pub known_atoms : (s : Support) → IsMember numbered.supports s → s.atom < length program.atoms + 1
  known_atoms s m =
      (property_member (IsSupportBelow (length program.atoms + 1) (length numbered.bodies)) numbered.supports s
      (recursion_from_All (IsSupportBelow (length program.atoms + 1) (length numbered.bodies)) numbered.supports known_supports_in) m).0

  pub known_rules : All (IsBelowCount (length program.atoms + 1)) (waiting_rules numbered.bodies numbered.supports (length program.atoms + 1))
  known_rules =
      All-from_recursion (IsBelowCount (length program.atoms + 1)) (waiting_rules numbered.bodies numbered.supports (length program.atoms + 1))
      (all_map (IsBelowCount (length program.atoms + 1)) (waiting_rule numbered.bodies numbered.supports) (range_with_len 0 (length program.atoms + 1)) (λ a m.
      record {
        head = (let r = member_range 0 (length program.atoms + 1) a m in let h = r.1 in omega (arith, h));
        body = All-from_recursion (λ b. b < length program.atoms + 1) (waits_of numbered.bodies numbered.supports a)
            (property_from_members (λ b. b < length program.atoms + 1) (waits_of numbered.bodies numbered.supports a) (known_waits a));
      }))
