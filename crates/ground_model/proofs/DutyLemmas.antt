-- Stable models by tests are stable models, both ways.
use Rattle.std.proofs.Common.{◌≡◌, ◌≤◌, ◌⊎◌, inl, inr, ◌↔◌, ℕ, suc, Bool, true, false, cond, not, ◌&&◌, ◌||◌, ◌==◌, List, [], ◌∷◌, map, length, refl, sym, ◌∙◌, ap, subst, true≢false, eqb-true, arith}
use Rattle.std.specs.List.{AllByRecursion, list_all, list_any}
use Rattle.symbols.specs.Symbol.{Symbol}
use Rattle.ground_model.specs.declared.rule.BodyLit.{BodyLit}
use Rattle.ground_model.specs.declared.rule.BodyLit.TheVariants as b
use Rattle.ground_model.specs.declared.rule.ChoiceItem.{ChoiceItem}
use Rattle.ground_model.specs.declared.rule.GroundHead.{GroundHead}
use Rattle.ground_model.specs.declared.rule.GroundHead.TheVariants as h
use Rattle.ground_model.specs.declared.rule.GroundRule.{GroundRule}
use Rattle.ground_model.specs.Members.{IsMember, IsApart, IsListOf, Counts}
use Rattle.ground_model.specs.Rules.{IsTrueIn, signed}
use Rattle.ground_model.specs.Stable.{IsStable, IsChosen, HeadHolds}
use Rattle.ground_model.specs.Truth.{relation_truth}
use Rattle.ground_model.specs.Model.{read, read_head, items_of, allows}
use Rattle.ground_model.specs.View.{relation_of, item_of, head_of, rule_of}
use Rattle.ground_model.specs.World.{World}
use Rattle.ground_model.specs.Ways.{literal_holds}
use Rattle.ground_model.specs.Duties.{with_once, is_taken, chosen, head_holds, rule_holds, IsStableByTests}
use Rattle.ground_model.proofs.Bools.{and_elim, and_intro, or_left, or_right, bool_cases}
use Rattle.ground_model.proofs.MemberLemmas.{same_nat, any_member, member_any, all_member, all_from_members, member_map, map_member}
use Rattle.ground_model.proofs.Alike.{relation_alike, theory_alike}
use Rattle.ground_model.proofs.WayLemmas.{family, read_all, derivable_from_test, test_from_derivable}

-- COUNTS ARE ONE

remove_member : {X : Type 0} (ys : List X) (x : X) → IsMember ys x
    → (zs : List X) × (suc (length zs) ≡ length ys) × ((y : X) → IsMember ys y → (y ≡ x) ⊎ IsMember zs y)
remove_member [] x m = absurd m
remove_member (y ∷ ys) x (inl e) = (ys, refl, split)
  where
    split : (z : _) → IsMember (y ∷ ys) z → (z ≡ x) ⊎ IsMember ys z
    split z (inl p) = inl (p ∙ sym e)
    split z (inr m) = inr m
remove_member {X} (y ∷ ys) x (inr m) =
    let r = remove_member ys x m in
    (y ∷ r.0, ap suc r.1, λ z k. go r.0 r.2 z k)
  where
    go : (zs : List X) → ((w : X) → IsMember ys w → (w ≡ x) ⊎ IsMember zs w) → (z : X) → IsMember (y ∷ ys) z → (z ≡ x) ⊎ IsMember (y ∷ zs) z
    go zs f z (inl p) = inr (inl p)
    go zs f z (inr k) = shift (f z k)
      where
        shift : (z ≡ x) ⊎ IsMember zs z → (z ≡ x) ⊎ IsMember (y ∷ zs) z
        shift (inl p) = inl p
        shift (inr q) = inr (inr q)

-- different members of a list are no more than it has
no_more : {X : Type 0} (xs ys : List X) → IsApart xs → ((x : X) → IsMember xs x → IsMember ys x) → length xs ≤ length ys
no_more [] ys apart f = omega arith
no_more {X} (x ∷ xs) ys apart f =
    let r = remove_member ys x (f x (inl refl)) in
    let l = no_more xs r.0 apart.1 (inside r.0 r.2) in
    let e = r.1 in omega arith
  where
    inside : (zs : List X) → ((y : X) → IsMember ys y → (y ≡ x) ⊎ IsMember zs y) → (y : X) → IsMember xs y → IsMember zs y
    inside zs g y m = go (g y (f y (inr m)))
      where
        go : (y ≡ x) ⊎ IsMember zs y → IsMember zs y
        go (inl e) = absurd (apart.0 (subst (IsMember xs) e m))
        go (inr k) = k

pub counts_one : {X : Type 0} (P : X → Type 0) (m n : ℕ) → Counts P m → Counts P n → m ≡ n
counts_one P m n c d =
    let l = no_more c.0 d.0 c.2 (λ x k. (d.3 x).1 ((c.3 x).0 k)) in
    let r = no_more d.0 c.0 d.2 (λ x k. (c.3 x).1 ((d.3 x).0 k)) in
    let p = c.1 in let q = d.1 in omega arith

-- A LIST OF DIFFERENT ATOMS

some_equal : (a : ℕ) (atoms : List ℕ) → list_any (λ b. b == a) atoms ≡ true → IsMember atoms a
some_equal a atoms e = let m = member_any (λ b. b == a) atoms e in subst (IsMember atoms) (eqb-true m.0 a m.2) m.1

equal_some : (a : ℕ) (atoms : List ℕ) → IsMember atoms a → list_any (λ b. b == a) atoms ≡ true
equal_some a atoms m = any_member (λ b. b == a) atoms a m (same_nat a a refl)

once_apart : (t : Bool) (a : ℕ) (atoms : List ℕ) → IsApart atoms → IsApart (with_once t a atoms)
once_apart false a atoms p = p
once_apart true a atoms p = go (list_any (λ b. b == a) atoms) refl
  where
    go : (c : Bool) → list_any (λ b. b == a) atoms ≡ c → IsApart (cond c atoms (a ∷ atoms))
    go true e = p
    go false e = (λ m. true≢false (sym (equal_some a atoms m) ∙ e), p)

once_member : (t : Bool) (a : ℕ) (atoms : List ℕ) (x : ℕ) → IsMember (with_once t a atoms) x ↔ (((t ≡ true) × (x ≡ a)) ⊎ IsMember atoms x)
once_member false a atoms x = (λ m. inr m, back)
  where
    back : ((false ≡ true) × (x ≡ a)) ⊎ IsMember atoms x → IsMember atoms x
    back (inl p) = absurd (true≢false (sym p.0))
    back (inr m) = m
once_member true a atoms x = go (list_any (λ b. b == a) atoms) refl
  where
    go : (c : Bool) → list_any (λ b. b == a) atoms ≡ c → IsMember (cond c atoms (a ∷ atoms)) x ↔ (((true ≡ true) × (x ≡ a)) ⊎ IsMember atoms x)
    go true e = (λ m. inr m, back)
      where
        back : ((true ≡ true) × (x ≡ a)) ⊎ IsMember atoms x → IsMember atoms x
        back (inl p) = subst (IsMember atoms) (sym p.1) (some_equal a atoms e)
        back (inr m) = m
    go false e = (there, back)
      where
        there : IsMember (a ∷ atoms) x → ((true ≡ true) × (x ≡ a)) ⊎ IsMember atoms x
        there (inl p) = inl (refl, p)
        there (inr m) = inr m

        back : ((true ≡ true) × (x ≡ a)) ⊎ IsMember atoms x → IsMember (a ∷ atoms) x
        back (inl p) = inl p.1
        back (inr m) = inr m

module _ (symbols : List Symbol) (rules : List GroundRule) (world : World) where
  true_up : (body : List BodyLit) → list_all (literal_holds world) body ≡ true → AllByRecursion (IsTrueIn world.atoms) (read_all symbols rules world body)
  true_up [] e = tt
  true_up (b.Atom a sign ∷ body) e =
      let p = and_elim (signed sign (world.atoms a)) (list_all (literal_holds world) body) e in (p.0, true_up body p.1)
  true_up (b.Theory relation sign ∷ body) e =
      let p = and_elim (signed sign (relation_truth world.values (relation_of [] relation))) (list_all (literal_holds world) body) e in
      (ap (signed sign) (relation_alike world.values symbols [] relation) ∙ p.0, true_up body p.1)

  true_down : (body : List BodyLit) → AllByRecursion (IsTrueIn world.atoms) (read_all symbols rules world body) → list_all (literal_holds world) body ≡ true
  true_down [] e = refl
  true_down (b.Atom a sign ∷ body) e = and_intro (signed sign (world.atoms a)) (list_all (literal_holds world) body) e.0 (true_down body e.1)
  true_down (b.Theory relation sign ∷ body) e =
      and_intro (signed sign (relation_truth world.values (relation_of [] relation))) (list_all (literal_holds world) body)
      (ap (signed sign) (relation_alike world.values [] symbols relation) ∙ e.0) (true_down body e.1)

  -- the world has the atom, and an item with a true condition has it
  abbrev IsTakenFrom : List ChoiceItem → ℕ → Type 0
  IsTakenFrom items a =
      (world.atoms a ≡ true) × ((item : ChoiceItem) × IsMember items item × (item.atom ≡ a) × (list_all (literal_holds world) item.condition ≡ true))

  chosen_apart : (items : List ChoiceItem) → IsApart (chosen world items)
  chosen_apart [] = tt
  chosen_apart (item ∷ items) = once_apart (is_taken world item) item.atom (chosen world items) (chosen_apart items)

  chosen_taken : (items : List ChoiceItem) → IsListOf (IsTakenFrom items) (chosen world items)
  chosen_taken [] x = (λ m. absurd m, λ t. absurd t.1.1)
  chosen_taken (item ∷ items) x =
      let o = once_member (is_taken world item) item.atom (chosen world items) x in
      let rest = chosen_taken items x in
      (λ m. there rest (o.0 m), λ t. o.1 (back rest t.0 t.1.0 t.1.1 t.1.2 t.1.3))
    where
      there : (IsMember (chosen world items) x ↔ IsTakenFrom items x) → (((is_taken world item) ≡ true) × (x ≡ item.atom)) ⊎ IsMember (chosen world items) x → IsTakenFrom (item ∷ items) x
      there rest (inl p) =
          let q = and_elim (world.atoms item.atom) (list_all (literal_holds world) item.condition) p.0 in
          (subst (λ c. world.atoms c ≡ true) (sym p.1) q.0, (item, inl refl, sym p.1, q.1))
      there rest (inr m) = let t = rest.0 m in (t.0, (t.1.0, inr t.1.1, t.1.2, t.1.3))

      back : (IsMember (chosen world items) x ↔ IsTakenFrom items x) → world.atoms x ≡ true → (other : ChoiceItem) → IsMember (item ∷ items) other → other.atom ≡ x
          → list_all (literal_holds world) other.condition ≡ true → (((is_taken world item) ≡ true) × (x ≡ item.atom)) ⊎ IsMember (chosen world items) x
      back rest t other (inl e) a c =
          let a = subst (λ y. y.atom ≡ x) e a in
          inl (and_intro (world.atoms item.atom) (list_all (literal_holds world) item.condition) (subst (λ n. world.atoms n ≡ true) (sym a) t) (subst (λ y. list_all (literal_holds world) y.condition ≡ true) e c), sym a)
      back rest t other (inr m) a c = inr (rest.1 (t, (other, m, a, c)))

  -- the count of a choice
  counts : (name : (family symbols rules world).Name) (items : List ChoiceItem) → items_of name.0.head ≡ map (item_of symbols) items
      → Counts (IsChosen (family symbols rules world) world.atoms name) (length (chosen world items))
  counts name items e = (
    chosen world items,
    refl,
    chosen_apart items,
    λ a. (
      λ m.
          let t = (chosen_taken items a).0 m in
          let k : IsMember (items_of name.0.head) (item_of symbols t.1.0) = subst (λ xs. IsMember xs (item_of symbols t.1.0)) (sym e) (member_map (item_of symbols) items t.1.0 t.1.1) in
          (t.0, ((item_of symbols t.1.0, k), t.1.2, true_up t.1.0.condition t.1.3)),
      λ c.
          let i = map_member (item_of symbols) items c.1.0.0 (subst (λ xs. IsMember xs c.1.0.0) e c.1.0.1) in
          (chosen_taken items a).1 (
            c.0,
            (
              i.0,
              i.1,
              ap (λ z. z.atom) (sym i.2) ∙ c.1.1,
              true_down i.0.condition (subst (λ z. AllByRecursion (IsTrueIn world.atoms) (map (read world.values) z.condition)) i.2 c.1.2),
            ),
          ),
    ),
  )

  head_up : (name : (family symbols rules world).Name) (head : GroundHead) → name.0.head ≡ head_of symbols head → head_holds world head ≡ true
      → HeadHolds world.atoms (IsChosen (family symbols rules world) world.atoms name) (read_head world.values (head_of symbols head))
  head_up name h.Nothing e t = absurd (true≢false (sym t))
  head_up name (h.Atom a) e t = t
  head_up name (h.Theory theory) e t = theory_alike world.values symbols [] theory ∙ t
  head_up name (h.Choice choice) e t = (length (chosen world choice.items), counts name choice.items (ap items_of e), t)

  head_down : (name : (family symbols rules world).Name) (head : GroundHead) → name.0.head ≡ head_of symbols head
      → HeadHolds world.atoms (IsChosen (family symbols rules world) world.atoms name) (read_head world.values (head_of symbols head)) → head_holds world head ≡ true
  head_down name h.Nothing e t = absurd t
  head_down name (h.Atom a) e t = t
  head_down name (h.Theory theory) e t = theory_alike world.values [] symbols theory ∙ t
  head_down name (h.Choice choice) e t =
      let same = counts_one (IsChosen (family symbols rules world) world.atoms name) t.0 (length (chosen world choice.items)) t.1 (counts name choice.items (ap items_of e)) in
      subst (λ n. (allows choice.left n && allows choice.right n) ≡ true) same t.2

  -- the family's models are those by tests
  pub by_tests : IsStableByTests rules world → IsStable (family symbols rules world) world.atoms
  by_tests s = record {
    derived = λ a t. let d = s.derived a t in (d.0, derivable_from_test symbols rules world d.0 a d.1);
    closed = λ a rank d. s.closed a rank (test_from_derivable symbols rules world rank a d);
    duties = duty;
  }
    where
      duty : (name : (family symbols rules world).Name) → AllByRecursion (IsTrueIn world.atoms) ((family symbols rules world).body name)
          → HeadHolds world.atoms (IsChosen (family symbols rules world) world.atoms name) ((family symbols rules world).head name)
      duty name holds =
          let r = map_member (rule_of symbols) rules name.0 name.1 in
          let t = all_member (rule_holds world) rules r.0 s.duties r.1 in
          let body = true_down r.0.body (subst (λ z. AllByRecursion (IsTrueIn world.atoms) (map (read world.values) z.body)) r.2 holds) in
          let head : head_holds world r.0.head ≡ true = after body t in
          subst (λ z. HeadHolds world.atoms (IsChosen (family symbols rules world) world.atoms name) (read_head world.values z.head)) (sym r.2)
          (head_up name r.0.head (ap (λ z. z.head) r.2) head)
        where
          after : {x y : Bool} → x ≡ true → (not x || y) ≡ true → y ≡ true
          after {x} {y} p q = subst (λ t. (not t || y) ≡ true) p q

  pub to_tests : IsStable (family symbols rules world) world.atoms → IsStableByTests rules world
  to_tests s = record {
    derived = λ a t. let d = s.derived a t in (d.0, test_from_derivable symbols rules world d.0 a d.1);
    closed = λ a rank d. s.closed a rank (derivable_from_test symbols rules world rank a d);
    duties = all_from_members (rule_holds world) rules duty;
  }
    where
      duty : (rule : GroundRule) → IsMember rules rule → rule_holds world rule ≡ true
      duty rule m = go (bool_cases (list_all (literal_holds world) rule.body))
        where
          go : (list_all (literal_holds world) rule.body ≡ true) ⊎ (list_all (literal_holds world) rule.body ≡ false) → rule_holds world rule ≡ true
          go (inr e) = or_left (not (list_all (literal_holds world) rule.body)) (head_holds world rule.head) (ap not e)
          go (inl e) =
              let name : (family symbols rules world).Name = (rule_of symbols rule, member_map (rule_of symbols) rules rule m) in
              or_right (not (list_all (literal_holds world) rule.body)) (head_holds world rule.head)
              (head_down name rule.head refl (s.duties name (true_up rule.body e)))
