-- Atoms that the open supports do not give are an unfounded set, and where they give all no set is unfounded.
use Rattle.std.proofs.Common.{◌≡◌, ◌⊎◌, inl, inr, ℕ, zero, suc, ◌+◌, ◌-◌, ◌<◌, ◌≤◌, nat_lt, Bool, true, false, not, cond, ◌||◌, ◌&&◌, ◌==◌, List, [], ◌∷◌, ◌++◌, filter, length, slice_index_or, Contains, refl, sym, ◌∙◌, ap, ap₂, subst, true≢false, arith, All}
use Rattle.std.specs.List.{AllByRecursion, list_any, range_with_len}
use Rattle.std.proofs.lemmas.Bool.Decides.{nat_tests}
use Rattle.std.proofs.lemmas.List.Elements.{All-from_recursion}
use Rattle.literals.specs.declared.lit.Lit.TheVariants as l
use Rattle.literals.specs.declared.reason.Reason.{Reason}
use Rattle.literals.specs.Steps.{ascend_above}
use Rattle.definite_rules.specs.Rule.{DefiniteRule, IsBelow}
use Rattle.definite_rules.specs.Least.{flag_at, IsLeastClosed, IsClosed}
use Rattle.ground_model.specs.declared.program.GroundProgram.{GroundProgram}
use Rattle.ground_model.specs.Answers.{IsNumbered}
use Rattle.ground_model.specs.Members.{IsMember}
use Rattle.ground_model.proofs.Bools.{and_elim, and_intro, or_left, not_true, conflict, same_test}
use Rattle.ground_model.proofs.MemberLemmas.{same_nat, any_member, member_any, property_member, property_map, property_from_members, contains_member, member_contains, map_member, member_map}
use Rattle.ground_model.proofs.WayLemmas.{append_left, append_right}
use Rattle.linear_normal.specs.declared.numbered.Support.{Support}
use Rattle.linear_normal.specs.Numbering.{numbering}
use Rattle.linear_normal.specs.Steps.{is_among, is_external}
use Rattle.linear_normal.proofs.ListLemmas.{filter_member, member_filter, among_member, member_among, range_numbered, numbered_range}
use Rattle.trail.specs.Assignment.{Assignment, is_true_on}
use Rattle.trail_worlds.specs.Founded.{IsUnfounded, AreOpenOrTrue}
use Rattle.unfounded_sets.specs.Dependence.{Dependence, row_of, is_outer, dependence_of, Fits}
use Rattle.unfounded_sets.specs.Loops.{IsLoopFree, IsLoop}
use Rattle.unfounded_sets.specs.inner.Outer.{IsWhole, outer_bodies, is_left, left_of, loop_reason, IsNamed}
use Rattle.unfounded_sets.specs.inner.Open.{fact, facts_of, rule_by, open_rules, rules_on}
use Rattle.unfounded_sets.proofs.DependenceLemmas.{external_same}
use Rattle.unfounded_sets.proofs.ReasonLemmas.{IsFalseBody, IsCut, loop_is}

-- a filtered range ascends
pub range_ascends : (p : ℕ → Bool) (last start n : ℕ) → last < start → ascend_above last (filter p (range_with_len start n)) ≡ true
range_ascends p last start zero below = refl
range_ascends p last start (suc n) below = go (p start) (range_ascends p start (start + 1) n (omega arith)) (range_ascends p last (start + 1) n (omega (arith, below)))
  where
    less : (x y : ℕ) → x < y → nat_lt x y ≡ true
    less x y h = grind (arith, nat_tests, h)

    go : (b : Bool) → ascend_above start (filter p (range_with_len (start + 1) n)) ≡ true → ascend_above last (filter p (range_with_len (start + 1) n)) ≡ true
        → ascend_above last (cond b (start ∷ filter p (range_with_len (start + 1) n)) (filter p (range_with_len (start + 1) n))) ≡ true
    go true r s = and_intro (nat_lt last start) (ascend_above start (filter p (range_with_len (start + 1) n))) (less last start below) r
    go false r s = s

-- none of a list has the property where no test finds one
none_found : (test : ℕ → Bool) (xs : List ℕ) → list_any test xs ≡ false → AllByRecursion (λ x. test x ≡ false) xs
none_found test xs e = property_from_members (λ x. test x ≡ false) xs (λ x m. one x m (test x) refl)
  where
    one : (x : ℕ) → IsMember xs x → (b : Bool) → test x ≡ b → test x ≡ false
    one x m true f = conflict (list_any test xs) (any_member test xs x m f) e
    one x m false f = f

found_same : (p q : ℕ → Bool) (xs : List ℕ) → ((x : ℕ) → IsMember xs x → p x ≡ q x) → list_any p xs ≡ list_any q xs
found_same p q xs h = same_test (list_any p xs) (list_any q xs)
    (λ e. let m = member_any p xs e in any_member q xs m.0 m.1 (sym (h m.0 m.1) ∙ m.2))
    (λ e. let m = member_any q xs e in any_member p xs m.0 m.1 (h m.0 m.1 ∙ m.2))

-- what holds of each row holds of the row of a number
row_all : (P : ℕ → Type 0) (rows : List (List ℕ)) (n : ℕ) → IsNumbered (length rows) n → AllByRecursion (AllByRecursion P) rows → AllByRecursion P (row_of rows n)
row_all P rows zero is a = absurd (let above = is.above in omega (arith, above))
row_all P [] (suc n) is a = tt
row_all P (row ∷ rows) (suc zero) is a = a.0
row_all P (row ∷ rows) (suc (suc n)) is a = row_all P rows (suc n) (record { above = omega arith; known = (let known = is.known in omega (arith, known)) }) a.1

-- the row of a number, as it is found by its place
pub row_is : (rows : List (List ℕ)) (n : ℕ) → 1 ≤ n → row_of rows n ≡ slice_index_or rows (n - 1) []
row_is rows zero h = absurd (omega (arith, h))
row_is rows (suc n) h = let e : n ≡ suc n - 1 = omega arith in ap (λ k. slice_index_or rows k []) e

member_split : {X : Type 0} (xs ys : List X) (x : X) → IsMember (xs ++ ys) x → IsMember xs x ⊎ IsMember ys x
member_split [] ys x m = inr m
member_split (y ∷ xs) ys x (inl e) = inl (inl e)
member_split (y ∷ xs) ys x (inr m) = later (member_split xs ys x m)
  where
    later : IsMember xs x ⊎ IsMember ys x → IsMember (y ∷ xs) x ⊎ IsMember ys x
    later (inl k) = inl (inr k)
    later (inr k) = inr k

module _ (d : Dependence) (t : Assignment) (whole : IsWhole d) (fits : Fits d t.shape) where
  -- the positive atoms of a support's body are atoms
  pub row_known : (s : Support) → IsMember d.supports s → AllByRecursion (IsNumbered d.atoms) (row_of d.bodies s.body)
  row_known s m = row_all (IsNumbered d.atoms) d.bodies s.body (property_member (λ (s : Support). IsNumbered (length d.bodies) s.body) d.supports s whole.known m) whole.bodies

  -- two sets that agree on atoms have the same supports from outside
  pub outer_same : (p q : ℕ → Bool) → ((a : ℕ) → IsNumbered d.atoms a → p a ≡ q a) → (s : Support) → IsMember d.supports s → is_outer d.bodies p s ≡ is_outer d.bodies q s
  outer_same p q h s m =
      ap (λ b. b && not (list_any p (row_of d.bodies s.body))) (h s.atom (property_member (λ (s : Support). IsNumbered d.atoms s.atom) d.supports s whole.atoms m))
      ∙ ap (λ b. q s.atom && not b) (found_same p q (row_of d.bodies s.body) (λ x k. h x (property_member (IsNumbered d.atoms) (row_of d.bodies s.body) x (row_known s m) k)))

  -- an unfounded set of a program, by its dependence
  pub outer_false : (program : GroundProgram) → d ≡ dependence_of program → (set : List ℕ) → IsUnfounded (numbering program) t set
      → (s : Support) → IsMember d.supports s → is_outer d.bodies (is_among set) s ≡ true → is_true_on t (l.Body s.body false) ≡ true
  outer_false program same set unfounded s m e =
      let there = subst (λ (ss : List Support). IsMember ss s) (ap (λ (x : Dependence). x.supports) same) m in
      property_member (λ support. is_external (numbering program) set support ≡ true → is_true_on t (l.Body support.body false) ≡ true) (numbering program).supports s unfounded there
      (external_same set program s ∙ sym (ap (λ (x : Dependence). is_outer x.bodies (is_among set) s) same) ∙ e)

  -- an atom of a set of atoms that are not false
  pub open_atom : (set : List ℕ) → AreOpenOrTrue t set → (a : ℕ) → is_among set a ≡ true → IsNumbered d.atoms a × (is_true_on t (l.Atom a false) ≡ false)
  open_atom set all a e =
      let is = property_member (λ a. IsNumbered t.shape.atoms a × (is_true_on t (l.Atom a false) ≡ false)) set a all (among_member set a e) in
      (subst (λ n. IsNumbered n a) fits.atoms is.0, is.1)

  module _ (flags : List Bool) (least : IsLeastClosed (rules_on t d) (flag_at flags)) where
    abbrev set : List ℕ
    set = left_of flags d.atoms

    fact_rule : (a : ℕ) → IsNumbered d.atoms a → is_true_on t (l.Atom a false) ≡ true → Contains (rules_on t d) (fact a)
    fact_rule a is e =
        member_contains (rules_on t d) (fact a)
        (append_left (facts_of t d.atoms) (open_rules t d.bodies d.supports) (fact a)
        (member_map fact (filter (λ a. is_true_on t (l.Atom a false)) (range_with_len 1 d.atoms)) a
        (member_filter (λ a. is_true_on t (l.Atom a false)) (range_with_len 1 d.atoms) a (numbered_range d.atoms a is) e)))

    open_rule : (s : Support) → IsMember d.supports s → is_true_on t (l.Body s.body false) ≡ false → Contains (rules_on t d) (rule_by d.bodies s)
    open_rule s m e =
        member_contains (rules_on t d) (rule_by d.bodies s)
        (append_right (facts_of t d.atoms) (open_rules t d.bodies d.supports) (rule_by d.bodies s)
        (member_map (rule_by d.bodies) (filter (λ s. not (is_true_on t (l.Body s.body false))) d.supports) s
        (member_filter (λ (s : Support). not (is_true_on t (l.Body s.body false))) d.supports s m (ap not e))))

    left_atom : (a : ℕ) → IsMember set a → IsNumbered d.atoms a × (is_left flags a ≡ true)
    left_atom a m = let f = filter_member (is_left flags) (range_with_len 1 d.atoms) a m in (range_numbered d.atoms a f.0, f.1)

    left_test : (a : ℕ) → IsNumbered d.atoms a → is_among set a ≡ is_left flags a
    left_test a is =
        same_test (is_among set a) (is_left flags a) (λ e. (left_atom a (among_member set a e)).1)
        (λ e. member_among set a (member_filter (is_left flags) (range_with_len 1 d.atoms) a (numbered_range d.atoms a is) e))

    flagged : (a : ℕ) → is_left flags a ≡ false → flag_at flags a ≡ true
    flagged a e = cases (flag_at flags a) e
      where
        cases : (b : Bool) → not b ≡ false → b ≡ true
        cases true f = refl
        cases false f = absurd (true≢false f)

    -- no atom that is left is false
    left_open : (a : ℕ) → IsMember set a → IsNumbered t.shape.atoms a × (is_true_on t (l.Atom a false) ≡ false)
    left_open a m =
        let is = left_atom a m in
        (subst (λ n. IsNumbered n a) (sym fits.atoms) is.0, go is.0 is.1 (is_true_on t (l.Atom a false)) refl)
      where
        go : IsNumbered d.atoms a → is_left flags a ≡ true → (b : Bool) → is_true_on t (l.Atom a false) ≡ b → is_true_on t (l.Atom a false) ≡ false
        go is left true e = conflict (flag_at flags a) (least.closed (fact a) (fact_rule a is e) tt) (not_true (flag_at flags a) left)
        go is left false e = e

    -- each body that supports one from outside is false
    left_outer : (s : Support) → IsMember d.supports s → is_outer d.bodies (is_left flags) s ≡ true → is_true_on t (l.Body s.body false) ≡ true
    left_outer s m e =
        let p = and_elim (is_left flags s.atom) (not (list_any (is_left flags) (row_of d.bodies s.body))) e in
        go p.0 (not_true (list_any (is_left flags) (row_of d.bodies s.body)) p.1) (is_true_on t (l.Body s.body false)) refl
      where
        go : is_left flags s.atom ≡ true → list_any (is_left flags) (row_of d.bodies s.body) ≡ false → (b : Bool) → is_true_on t (l.Body s.body false) ≡ b → is_true_on t (l.Body s.body false) ≡ true
        go left none true f = f
        go left none false f =
            conflict (flag_at flags s.atom)
            (least.closed (rule_by d.bodies s) (open_rule s m f)
            (property_from_members (λ a. flag_at flags a ≡ true) (row_of d.bodies s.body)
            (λ a k. flagged a (property_member (λ x. is_left flags x ≡ false) (row_of d.bodies s.body) a (none_found (is_left flags) (row_of d.bodies s.body) none) k))))
            (not_true (flag_at flags s.atom) left)

    -- the atoms that are left are cut off
    left_cut : IsCut d t set (outer_bodies d.bodies (is_left flags) d.supports)
    left_cut = record {
      ascends = range_ascends (is_left flags) 0 1 d.atoms (omega arith);
      open_or_true = property_from_members (λ a. IsNumbered t.shape.atoms a × (is_true_on t (l.Atom a false) ≡ false)) set left_open;
      are_false = property_from_members (IsFalseBody d t) (outer_bodies d.bodies (is_left flags) d.supports) each;
      outer = λ s m e. member_map (λ (s : Support). s.body) (filter (is_outer d.bodies (is_left flags)) d.supports) s
          (member_filter (is_outer d.bodies (is_left flags)) d.supports s m (sym (outer_same (is_among set) (is_left flags) left_test s m) ∙ e));
    }
      where
        each : (b : ℕ) → IsMember (outer_bodies d.bodies (is_left flags) d.supports) b → IsFalseBody d t b
        each b k =
            let s = map_member (λ (s : Support). s.body) (filter (is_outer d.bodies (is_left flags)) d.supports) b k in
            let f = filter_member (is_outer d.bodies (is_left flags)) d.supports s.0 s.1 in
            subst (IsFalseBody d t) (sym s.2) (record {
              known = property_member (λ (s : Support). IsNumbered (length d.bodies) s.body) d.supports s.0 whole.known f.0;
              is_false = left_outer s.0 f.0 f.1;
            })

    pub left_loop : (atom : ℕ) → IsNamed t set atom → IsLoop d t (loop_reason set atom (outer_bodies d.bodies (is_left flags) d.supports))
    left_loop atom named = loop_is d t set (outer_bodies d.bodies (is_left flags) d.supports) atom whole fits left_cut named

    -- where none is left, no set is unfounded
    pub none_left : set ≡ [] → IsLoopFree d t
    none_left empty program same a rest all unfounded =
        let first = open_atom (a ∷ rest) all a (or_left (a == a) (is_among rest a) (same_nat a a refl)) in
        conflict (is_among (a ∷ rest) a) (or_left (a == a) (is_among rest a) (same_nat a a refl))
        (not_true (is_among (a ∷ rest) a) (least.least outside closed a (given a first.0)))
      where
        outside : ℕ → Bool
        outside x = not (is_among (a ∷ rest) x)

        given : (x : ℕ) → IsNumbered d.atoms x → flag_at flags x ≡ true
        given x is = flagged x (sym (left_test x is) ∙ ap (λ ys. is_among ys x) empty)

        -- a false atom is not of the set
        by_fact : (x : ℕ) → is_true_on t (l.Atom x false) ≡ true → (b : Bool) → is_among (a ∷ rest) x ≡ b → not b ≡ true
        by_fact x e true f = conflict (is_true_on t (l.Atom x false)) e (open_atom (a ∷ rest) all x f).1
        by_fact x e false f = refl

        -- nor is the atom of a support whose body is not false and has none of it
        by_support : (s : Support) → IsMember d.supports s → is_true_on t (l.Body s.body false) ≡ false → AllByRecursion (λ x. outside x ≡ true) (row_of d.bodies s.body)
            → (b : Bool) → is_among (a ∷ rest) s.atom ≡ b → not b ≡ true
        by_support s m e body true f =
            conflict (is_true_on t (l.Body s.body false))
            (outer_false program same (a ∷ rest) unfounded s m
            (and_intro (is_among (a ∷ rest) s.atom) (not (list_any (is_among (a ∷ rest)) (row_of d.bodies s.body))) f (none (row_of d.bodies s.body) body))) e
          where
            none : (xs : List ℕ) → AllByRecursion (λ x. outside x ≡ true) xs → not (list_any (is_among (a ∷ rest)) xs) ≡ true
            none [] k = refl
            none (x ∷ xs) k = ap (λ b. not (b || list_any (is_among (a ∷ rest)) xs)) (not_true (is_among (a ∷ rest) x) k.0) ∙ none xs k.1
        by_support s m e body false f = refl

        each : (rule : DefiniteRule) → IsMember (facts_of t d.atoms) rule ⊎ IsMember (open_rules t d.bodies d.supports) rule → AllByRecursion (λ x. outside x ≡ true) rule.body → outside rule.head ≡ true
        each rule (inl m) body =
            let x = map_member fact (filter (λ a. is_true_on t (l.Atom a false)) (range_with_len 1 d.atoms)) rule m in
            let f = filter_member (λ a. is_true_on t (l.Atom a false)) (range_with_len 1 d.atoms) x.0 x.1 in
            subst (λ (r : DefiniteRule). outside r.head ≡ true) (sym x.2) (by_fact x.0 f.1 (is_among (a ∷ rest) x.0) refl)
        each rule (inr m) body =
            let x = map_member (rule_by d.bodies) (filter (λ (s : Support). not (is_true_on t (l.Body s.body false))) d.supports) rule m in
            let f = filter_member (λ (s : Support). not (is_true_on t (l.Body s.body false))) d.supports x.0 x.1 in
            subst (λ (r : DefiniteRule). outside r.head ≡ true) (sym x.2)
            (by_support x.0 f.0 (not_true (is_true_on t (l.Body x.0.body false)) f.1) (subst (λ (r : DefiniteRule). AllByRecursion (λ x. outside x ≡ true) r.body) x.2 body) (is_among (a ∷ rest) x.0.atom) refl)

        closed : IsClosed (rules_on t d) outside
        closed rule c body = each rule (member_split (facts_of t d.atoms) (open_rules t d.bodies d.supports) rule (contains_member (rules_on t d) rule c)) body

-- FOR THE CODE

-- what is left has the numbers of atoms
pub left_numbered : (flags : List Bool) (atoms : ℕ) → AllByRecursion (IsNumbered atoms) (left_of flags atoms)
left_numbered flags atoms = property_from_members (IsNumbered atoms) (left_of flags atoms) (λ a m. range_numbered atoms a (filter_member (is_left flags) (range_with_len 1 atoms) a m).0)

pub set_is : (set : List ℕ) (flags items : List Bool) (atoms : ℕ) → set ≡ left_of items (length items - 1) → items ≡ flags → length flags ≡ atoms + 1 → set ≡ left_of flags atoms
set_is set flags items atoms e same size =
    let n : length flags - 1 ≡ atoms = omega (arith, size) in
    e ∙ ap (λ (xs : List Bool). left_of xs (length xs - 1)) same ∙ ap (left_of flags) n

below_one : (atoms a : ℕ) → IsNumbered atoms a → a < atoms + 1
below_one atoms a is = let known = is.known in omega (arith, known)

pub atoms_below : (d : Dependence) (n : ℕ) → IsWhole d → n ≡ d.atoms + 1 → AllByRecursion (λ support. support.atom < n) d.supports
atoms_below d n whole e =
    subst (λ m. AllByRecursion (λ (support : Support). support.atom < m) d.supports) (sym e)
    (property_map (λ (support : Support). IsNumbered d.atoms support.atom) (λ support. support.atom < d.atoms + 1) (λ s is. below_one d.atoms s.atom is) d.supports whole.atoms)

pub rows_below : (d : Dependence) (n : ℕ) → IsWhole d → n ≡ d.atoms + 1 → AllByRecursion (AllByRecursion (λ a. a < n)) d.bodies
rows_below d n whole e =
    subst (λ m. AllByRecursion (AllByRecursion (λ a. a < m)) d.bodies) (sym e)
    (property_map (AllByRecursion (IsNumbered d.atoms)) (AllByRecursion (λ a. a < d.atoms + 1)) (λ row is. property_map (IsNumbered d.atoms) (λ a. a < d.atoms + 1) (below_one d.atoms) row is) d.bodies whole.bodies)

-- the bodies of supports have numbers
pub outer_above : (d : Dependence) (set : ℕ → Bool) (bodies : List ℕ) → IsWhole d → bodies ≡ outer_bodies d.bodies set d.supports → AllByRecursion (λ body. 1 ≤ body) bodies
outer_above d set bodies whole e = subst (AllByRecursion (λ body. 1 ≤ body)) (sym e) (property_from_members (λ body. 1 ≤ body) (outer_bodies d.bodies set d.supports) one)
  where
    one : (b : ℕ) → IsMember (outer_bodies d.bodies set d.supports) b → 1 ≤ b
    one b m =
        let s = map_member (λ (s : Support). s.body) (filter (is_outer d.bodies set) d.supports) b m in
        let f = filter_member (is_outer d.bodies set) d.supports s.0 s.1 in
        let is = property_member (λ (s : Support). IsNumbered (length d.bodies) s.body) d.supports s.0 whole.known f.0 in
        let above = is.above in
        let same = s.2 in
        omega (arith, above, same)

pub named_above : (t : Assignment) (set : List ℕ) (flags : List Bool) (atoms atom : ℕ) → set ≡ left_of flags atoms → IsNamed t set atom → 1 ≤ atom
named_above t set flags atoms atom e named =
    let is = property_member (IsNumbered atoms) (left_of flags atoms) atom (left_numbered flags atoms) (subst (λ xs. IsMember xs atom) e (contains_member set atom named.member)) in
    let above = is.above in omega (arith, above)

-- the rules are of atoms
pub rules_below : (d : Dependence) (t : Assignment) (whole : IsWhole d) (fits : Fits d t.shape) (rules : List DefiniteRule) → rules ≡ rules_on t d → All (IsBelow (d.atoms + 1)) rules
rules_below d t whole fits rules same =
    subst (All (IsBelow (d.atoms + 1))) (sym same) (All-from_recursion (IsBelow (d.atoms + 1)) (rules_on t d) (property_from_members (IsBelow (d.atoms + 1)) (rules_on t d) one))
  where
    by_fact : (a : ℕ) → IsNumbered d.atoms a → IsBelow (d.atoms + 1) (fact a)
    by_fact a is = record { head = below_one d.atoms a is; body = All-from_recursion (λ a. a < d.atoms + 1) [] tt }

    by_support : (s : Support) → IsMember d.supports s → IsBelow (d.atoms + 1) (rule_by d.bodies s)
    by_support s m = record {
      head = below_one d.atoms s.atom (property_member (λ (s : Support). IsNumbered d.atoms s.atom) d.supports s whole.atoms m);
      body = All-from_recursion (λ a. a < d.atoms + 1) (row_of d.bodies s.body)
          (property_map (IsNumbered d.atoms) (λ a. a < d.atoms + 1) (below_one d.atoms) (row_of d.bodies s.body) (row_known d t whole fits s m));
    }

    each : (rule : DefiniteRule) → IsMember (facts_of t d.atoms) rule ⊎ IsMember (open_rules t d.bodies d.supports) rule → IsBelow (d.atoms + 1) rule
    each rule (inl m) =
        let x = map_member fact (filter (λ a. is_true_on t (l.Atom a false)) (range_with_len 1 d.atoms)) rule m in
        let f = filter_member (λ a. is_true_on t (l.Atom a false)) (range_with_len 1 d.atoms) x.0 x.1 in
        subst (IsBelow (d.atoms + 1)) (sym x.2) (by_fact x.0 (range_numbered d.atoms x.0 f.0))
    each rule (inr m) =
        let x = map_member (rule_by d.bodies) (filter (λ (s : Support). not (is_true_on t (l.Body s.body false))) d.supports) rule m in
        let f = filter_member (λ (s : Support). not (is_true_on t (l.Body s.body false))) d.supports x.0 x.1 in
        subst (IsBelow (d.atoms + 1)) (sym x.2) (by_support x.0 f.0)

    one : (rule : DefiniteRule) → IsMember (rules_on t d) rule → IsBelow (d.atoms + 1) rule
    one rule m = each rule (member_split (facts_of t d.atoms) (open_rules t d.bodies d.supports) rule m)

module _ (d : Dependence) (t : Assignment) (whole : IsWhole d) (fits : Fits d t.shape) (flags : List Bool) (least : IsLeastClosed (rules_on t d) (flag_at flags)) (set : List ℕ) (same : set ≡ left_of flags d.atoms) where
  pub found_none : set ≡ [] → IsLoopFree d t
  found_none e = none_left d t whole fits flags least (sym same ∙ e)

  pub found_some : (atom : ℕ) (bodies : List ℕ) (r : Reason) → IsNamed t set atom → bodies ≡ outer_bodies d.bodies (is_left flags) d.supports → r ≡ loop_reason set atom bodies → IsLoop d t r
  found_some atom bodies r named b e =
      subst (IsLoop d t) (sym (e ∙ ap₂ (λ xs ys. loop_reason xs atom ys) same b)) (left_loop d t whole fits flags least atom (subst (λ xs. IsNamed t xs atom) same named))
