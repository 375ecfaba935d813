-- What truths that meet the input nogoods say of bodies and of constraints that are made of others.
use Rattle.std.proofs.Common.{◌≡◌, ℕ, zero, suc, ◌+◌, Bool, true, false, not, ◌&&◌, ◌||◌, ◌⊎◌, inl, inr, List, [], ◌∷◌, ◌++◌, map, flat_map, length, refl, sym, ◌∙◌, ap, ap₂, subst, true≢false, Some, slice_get, arith}
use Rattle.std.specs.List.{range_with_len}
use Rattle.std.proofs.lemmas.Option.{slice_get_within}
use Rattle.literals.specs.declared.lit.Lit.{Lit}
use Rattle.literals.specs.declared.lit.Lit.TheVariants as l
use Rattle.literals.specs.Lits.{complement_of}
use Rattle.literals.specs.Nogoods.{canonical}
use Rattle.literals.specs.Truths.{Truths, lit_true, all_true, Meets}
use Rattle.literals.proofs.Worlds.{complement_true}
use Rattle.ground_model.specs.declared.rule.BodyLit.{BodyLit}
use Rattle.ground_model.specs.declared.rule.GroundRule.{GroundRule}
use Rattle.ground_model.specs.declared.program.GroundProgram.{GroundProgram}
use Rattle.ground_model.specs.Members.{IsMember}
use Rattle.ground_model.proofs.Bools.{same_test}
use Rattle.ground_model.proofs.MemberLemmas.{any_member, member_any, all_from_members, member_map, property_member}
use Rattle.ground_model.proofs.WayLemmas.{append_left, append_right, member_flat}
use Rattle.linear_normal.specs.declared.constraint.Constraint.{Constraint}
use Rattle.linear_normal.specs.declared.constraint.Constraint.TheVariants as c
use Rattle.linear_normal.specs.declared.numbered.Conjunction.{Conjunction}
use Rattle.linear_normal.specs.declared.numbered.Numbered.{Numbered}
use Rattle.linear_normal.specs.Contents.{Content}
use Rattle.linear_normal.specs.Bodies.{bodies_in, Placed, placed}
use Rattle.linear_normal.specs.Numbering.{conjunction_of, head_duties, contents_in, numbering}
use Rattle.linear_normal.specs.Truth.{constraint_truth}
use Rattle.linear_normal.proofs.BodyLemmas.{slice_get_mapped}
use Rattle.numbering_laws.proofs.MadeLemmas.{mapped_at}
use Rattle.completion.specs.Inputs.{body_nogoods, bodies_nogoods, duty_nogood, rule_nogoods, all_false, constraint_nogoods, constraints_nogoods, atom_nogood, input_nogoods, MeetsAll}
use Rattle.completion.proofs.NogoodLemmas.{met_to, one_is_true}
use Rattle.trail_worlds.specs.Worlds.{has_work}

-- EQUATIONS

module _ (truths : Truths) where
  -- a body whose nogoods are met is true exactly where its literals are
  body_equation : (n : ℕ) (lits : List Lit) → ((nogood : List Lit) → IsMember (body_nogoods n lits) nogood → Meets truths nogood) → truths.body n ≡ all_true truths lits
  body_equation n lits met = same_test (truths.body n) (all_true truths lits) forth back
    where
      one : truths.body n ≡ true → (lit : Lit) → IsMember lits lit → lit_true truths lit ≡ true
      one e lit m = go (lit_true truths lit) refl
        where
          go : (b : Bool) → lit_true truths lit ≡ b → b ≡ true
          go true f = refl
          go false f =
              absurd (true≢false (sym (ap₂ (λ b q. b && (q && true)) e (complement_true truths lit ∙ ap not f))
              ∙ met_to truths (l.Body n true ∷ complement_of lit ∷ [])
              (met (canonical (l.Body n true ∷ complement_of lit ∷ [])) (inr (member_map (λ lit. canonical (l.Body n true ∷ complement_of lit ∷ [])) lits lit m)))))

      forth : truths.body n ≡ true → all_true truths lits ≡ true
      forth e = all_from_members (lit_true truths) lits (one e)

      back : all_true truths lits ≡ true → truths.body n ≡ true
      back e = go (truths.body n) refl
        where
          go : (b : Bool) → truths.body n ≡ b → b ≡ true
          go true f = refl
          go false f =
              absurd (true≢false (sym (ap₂ (λ b q. not b && q) f e) ∙ met_to truths (l.Body n false ∷ lits) (met (canonical (l.Body n false ∷ lits)) (inl refl))))

  both : (x a b : Bool) → (x && (not a && true)) ≡ false → (x && (not b && true)) ≡ false → (not x && (a && (b && true))) ≡ false → x ≡ (a && b)
  both true true true e f g = refl
  both true true false e f g = absurd (true≢false f)
  both true false b e f g = absurd (true≢false e)
  both false true true e f g = absurd (true≢false g)
  both false true false e f g = refl
  both false false b e f g = refl

  either : (x a b : Bool) → (x && (not a && (not b && true))) ≡ false → (not x && (a && true)) ≡ false → (not x && (b && true)) ≡ false → x ≡ (a || b)
  either true true b e f g = refl
  either true false true e f g = refl
  either true false false e f g = absurd (true≢false e)
  either false true b e f g = absurd (true≢false f)
  either false false true e f g = absurd (true≢false g)
  either false false false e f g = refl

  tally_equation : (n : ℕ) (bodies : List ℕ) → ((nogood : List Lit) → IsMember (constraint_nogoods n (c.Tally bodies)) nogood → Meets truths nogood)
      → truths.constraint n ≡ constraint_truth truths (c.Tally bodies)
  tally_equation n bodies met = same_test (truths.constraint n) (constraint_truth truths (c.Tally bodies)) forth back
    where
      forth : truths.constraint n ≡ true → constraint_truth truths (c.Tally bodies) ≡ true
      forth e =
          let some =
          one_is_true truths bodies
          (sym (ap (λ b. b && all_true truths (all_false bodies)) e) ∙ met_to truths (l.Constraint n true ∷ all_false bodies) (met (canonical (l.Constraint n true ∷ all_false bodies)) (inl refl))) in
          any_member truths.body bodies some.0 some.1 some.2

      back : constraint_truth truths (c.Tally bodies) ≡ true → truths.constraint n ≡ true
      back e = go (truths.constraint n) refl (member_any truths.body bodies e)
        where
          go : (x : Bool) → truths.constraint n ≡ x → (b : ℕ) × IsMember bodies b × (truths.body b ≡ true) → x ≡ true
          go true f some = refl
          go false f some =
              absurd (true≢false (sym (ap₂ (λ p q. not p && (q && true)) f some.2)
              ∙ met_to truths (l.Constraint n false ∷ l.Body some.0 true ∷ [])
              (met (canonical (l.Constraint n false ∷ l.Body some.0 true ∷ [])) (inr (member_map (λ b. canonical (l.Constraint n false ∷ l.Body b true ∷ [])) bodies some.0 some.1)))))

  -- so it is with a constraint that is made of others
  constraint_equation : (n : ℕ) (constraint : Constraint) → has_work constraint ≡ false → ((nogood : List Lit) → IsMember (constraint_nogoods n constraint) nogood → Meets truths nogood)
      → truths.constraint n ≡ constraint_truth truths constraint
  constraint_equation n (c.AtMost items most) work met = absurd (true≢false work)
  constraint_equation n (c.Both i j) work met =
      both (truths.constraint n) (truths.constraint i) (truths.constraint j)
      (met_to truths (l.Constraint n true ∷ l.Constraint i false ∷ []) (met (canonical (l.Constraint n true ∷ l.Constraint i false ∷ [])) (inl refl)))
      (met_to truths (l.Constraint n true ∷ l.Constraint j false ∷ []) (met (canonical (l.Constraint n true ∷ l.Constraint j false ∷ [])) (inr (inl refl))))
      (met_to truths (l.Constraint n false ∷ l.Constraint i true ∷ l.Constraint j true ∷ []) (met (canonical (l.Constraint n false ∷ l.Constraint i true ∷ l.Constraint j true ∷ [])) (inr (inr (inl refl)))))
  constraint_equation n (c.Either i j) work met =
      either (truths.constraint n) (truths.constraint i) (truths.constraint j)
      (met_to truths (l.Constraint n true ∷ l.Constraint i false ∷ l.Constraint j false ∷ []) (met (canonical (l.Constraint n true ∷ l.Constraint i false ∷ l.Constraint j false ∷ [])) (inl refl)))
      (met_to truths (l.Constraint n false ∷ l.Constraint i true ∷ []) (met (canonical (l.Constraint n false ∷ l.Constraint i true ∷ [])) (inr (inl refl))))
      (met_to truths (l.Constraint n false ∷ l.Constraint j true ∷ []) (met (canonical (l.Constraint n false ∷ l.Constraint j true ∷ [])) (inr (inr (inl refl)))))
  constraint_equation n (c.Domain x set) work met = absurd (true≢false work)
  constraint_equation n (c.Distinct places) work met = absurd (true≢false work)
  constraint_equation n (c.Disjoint places) work met = absurd (true≢false work)
  constraint_equation n (c.Tally bodies) work met = tally_equation n bodies met

-- WHERE NOGOODS STAND

body_stands : (n : ℕ) (bodies : List Conjunction) (k : ℕ) (body : Conjunction) → slice_get bodies k ≡ Some body → (nogood : List Lit) → IsMember (body_nogoods (n + k) body.lits) nogood → IsMember (bodies_nogoods n bodies) nogood
body_stands n [] k body e nogood m = absurd (omega (arith, slice_get_within {A = Conjunction} [] k body e))
body_stands n (first ∷ bodies) zero body e nogood m =
    let same : first ≡ body = cc in
    append_left (body_nogoods n first.lits) (bodies_nogoods (n + 1) bodies) nogood
    (subst (λ (b : Conjunction). IsMember (body_nogoods n b.lits) nogood) (sym same) (subst (λ j. IsMember (body_nogoods j body.lits) nogood) (plus_zero n) m))
  where
    plus_zero : (j : ℕ) → j + 0 ≡ j
    plus_zero j = omega arith
body_stands n (first ∷ bodies) (suc k) body e nogood m =
    append_right (body_nogoods n first.lits) (bodies_nogoods (n + 1) bodies) nogood
    (body_stands (n + 1) bodies k body e nogood (subst (λ j. IsMember (body_nogoods j body.lits) nogood) (shift n k) m))
  where
    shift : (j k : ℕ) → j + suc k ≡ (j + 1) + k
    shift j k = omega arith

constraint_stands : (n : ℕ) (constraints : List Constraint) (k : ℕ) (constraint : Constraint) → slice_get constraints k ≡ Some constraint → (nogood : List Lit) → IsMember (constraint_nogoods (n + k) constraint) nogood
    → IsMember (constraints_nogoods n constraints) nogood
constraint_stands n [] k constraint e nogood m = absurd (omega (arith, slice_get_within {A = Constraint} [] k constraint e))
constraint_stands n (first ∷ constraints) zero constraint e nogood m =
    let same : first ≡ constraint = cc in
    append_left (constraint_nogoods n first) (constraints_nogoods (n + 1) constraints) nogood
    (subst (λ (x : Constraint). IsMember (constraint_nogoods n x) nogood) (sym same) (subst (λ j. IsMember (constraint_nogoods j constraint) nogood) (plus_zero n) m))
  where
    plus_zero : (j : ℕ) → j + 0 ≡ j
    plus_zero j = omega arith
constraint_stands n (first ∷ constraints) (suc k) constraint e nogood m =
    append_right (constraint_nogoods n first) (constraints_nogoods (n + 1) constraints) nogood
    (constraint_stands (n + 1) constraints k constraint e nogood (subst (λ j. IsMember (constraint_nogoods j constraint) nogood) (shift n k) m))
  where
    shift : (j k : ℕ) → j + suc k ≡ (j + 1) + k
    shift j k = omega arith

-- a thing that is found in two lists joined is found in one of them
found_in : {X : Type 0} (xs ys : List X) (m : ℕ) (x : X) → slice_get (xs ++ ys) m ≡ Some x → (slice_get xs m ≡ Some x) ⊎ ((j : ℕ) × (m ≡ length xs + j) × (slice_get ys j ≡ Some x))
found_in [] ys m x e = inr (m, plus m, e)
  where
    plus : (m : ℕ) → m ≡ 0 + m
    plus m = omega arith
found_in (y ∷ xs) ys zero x e = inl e
found_in {X} (y ∷ xs) ys (suc m) x e = later (found_in xs ys m x e)
  where
    later : (slice_get xs m ≡ Some x) ⊎ ((j : ℕ) × (m ≡ length xs + j) × (slice_get ys j ≡ Some x))
        → (slice_get (y ∷ xs) (suc m) ≡ Some x) ⊎ ((j : ℕ) × (suc m ≡ length (y ∷ xs) + j) × (slice_get ys j ≡ Some x))
    later (inl f) = inl f
    later (inr r) = let f = r.1 in inr (r.0, omega (arith, f), r.2)

-- each body of placed rules is one of a placed rule's
all_bodies : (Q : ℕ → List BodyLit → Type 0) (start : ℕ) (rules : List GroundRule)
    → ((at : Placed) → IsMember (placed start rules) at → (k : ℕ) (body : List BodyLit) → slice_get (bodies_in at.rule) k ≡ Some body → Q (at.first + k) body)
    → (m : ℕ) (body : List BodyLit) → slice_get (flat_map bodies_in rules) m ≡ Some body → Q (start + m) body
all_bodies Q start [] known m body e = absurd (omega (arith, slice_get_within {A = List BodyLit} [] m body e))
all_bodies Q start (rule ∷ rules) known m body e =
    go (λ j f. all_bodies Q (start + length (bodies_in rule)) rules (λ at n k b g. known at (inr n) k b g) j body f) (found_in (bodies_in rule) (flat_map bodies_in rules) m body e)
  where
    shift : (s n j : ℕ) → m ≡ n + j → (s + n) + j ≡ s + m
    shift s n j p = omega (arith, p)

    go : ((j : ℕ) → slice_get (flat_map bodies_in rules) j ≡ Some body → Q ((start + length (bodies_in rule)) + j) body)
        → (slice_get (bodies_in rule) m ≡ Some body) ⊎ ((j : ℕ) × (m ≡ length (bodies_in rule) + j) × (slice_get (flat_map bodies_in rules) j ≡ Some body)) → Q (start + m) body
    go rec (inl f) = known (record { first = start; rule = rule }) (inl refl) m body f
    go rec (inr r) = subst (λ j. Q j body) (shift start (length (bodies_in rule)) r.0 r.1) (rec r.0 r.2)

module _ (program : GroundProgram) where
  abbrev cs : List Content
  cs = contents_in program

  abbrev atoms : ℕ
  atoms = length program.atoms

  abbrev variables : ℕ
  variables = length program.variables

  abbrev N : Numbered
  N = numbering program

  abbrev rows : List (List Lit)
  rows = flat_map (rule_nogoods cs atoms variables) (placed 1 program.rules)

  body_input : (at : Placed) → IsMember (placed 1 program.rules) at → (k : ℕ) (body : List BodyLit) → slice_get (bodies_in at.rule) k ≡ Some body
      → (nogood : List Lit) → IsMember (body_nogoods (at.first + k) (conjunction_of cs variables body).lits) nogood → IsMember (input_nogoods program) nogood
  body_input at m k body e nogood p =
      append_left (rows ++ constraints_nogoods 1 N.constraints) (map (atom_nogood N.supports) (range_with_len 1 atoms)) nogood
      (append_left rows (constraints_nogoods 1 N.constraints) nogood
      (member_flat (rule_nogoods cs atoms variables) (placed 1 program.rules) at nogood m
      (append_left (bodies_nogoods at.first (map (conjunction_of cs variables) (bodies_in at.rule))) (map duty_nogood (head_duties cs atoms variables at.first at.rule.head)) nogood
      (body_stands at.first (map (conjunction_of cs variables) (bodies_in at.rule)) k (conjunction_of cs variables body) (slice_get_mapped (conjunction_of cs variables) (bodies_in at.rule) k body e) nogood p))))

  constraint_input : (k : ℕ) (constraint : Constraint) → slice_get N.constraints k ≡ Some constraint → (nogood : List Lit) → IsMember (constraint_nogoods (1 + k) constraint) nogood → IsMember (input_nogoods program) nogood
  constraint_input k constraint e nogood p =
      append_left (rows ++ constraints_nogoods 1 N.constraints) (map (atom_nogood N.supports) (range_with_len 1 atoms)) nogood
      (append_right rows (constraints_nogoods 1 N.constraints) nogood (constraint_stands 1 N.constraints k constraint e nogood p))

  module _ (truths : Truths) (met : MeetsAll truths (input_nogoods program)) where
    each_met : (nogood : List Lit) → IsMember (input_nogoods program) nogood → Meets truths nogood
    each_met nogood m = property_member (Meets truths) (input_nogoods program) nogood met m

    -- each body is true exactly where all its literals are
    pub body_read : (m : ℕ) (body : Conjunction) → slice_get N.bodies m ≡ Some body → truths.body (suc m) ≡ all_true truths body.lits
    body_read m body e =
        let found = mapped_at (conjunction_of cs variables) (flat_map bodies_in program.rules) m body e in
        ap truths.body (next m)
        ∙ all_bodies (λ n b. truths.body n ≡ all_true truths (conjunction_of cs variables b).lits) 1 program.rules
        (λ at k j b f. body_equation truths (at.first + j) (conjunction_of cs variables b).lits (λ nogood p. each_met nogood (body_input at k j b f nogood p))) m found.0 found.1
        ∙ ap (λ (b : Conjunction). all_true truths b.lits) found.2
      where
        next : (k : ℕ) → suc k ≡ 1 + k
        next k = omega arith

    -- so is each constraint that is made of others
    pub constraint_read : (k : ℕ) (constraint : Constraint) → slice_get N.constraints k ≡ Some constraint → has_work constraint ≡ false → truths.constraint (suc k) ≡ constraint_truth truths constraint
    constraint_read k constraint e work =
        ap truths.constraint (next k) ∙ constraint_equation truths (1 + k) constraint work (λ nogood p. each_met nogood (constraint_input k constraint e nogood p))
      where
        next : (j : ℕ) → suc j ≡ 1 + j
        next j = omega arith
