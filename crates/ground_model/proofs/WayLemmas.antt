-- The test by ways is derivability, both ways.
use Rattle.std.proofs.Common.{◌≡◌, ◌⊎◌, inl, inr, ℕ, zero, suc, Bool, true, false, not, ◌&&◌, ◌==◌, List, [], ◌∷◌, ◌++◌, map, refl, sym, ◌∙◌, ap, subst, true≢false, eqb-true}
use Rattle.std.specs.List.{AllByRecursion, list_all, flat_map}
use Rattle.symbols.specs.Symbol.{Symbol}
use Rattle.ground_model.specs.declared.rule.BodyLit.{BodyLit}
use Rattle.ground_model.specs.declared.rule.BodyLit.TheVariants as b
use Rattle.ground_model.specs.declared.rule.GroundHead.{GroundHead}
use Rattle.ground_model.specs.declared.rule.GroundHead.TheVariants as h
use Rattle.ground_model.specs.declared.rule.GroundRule.{GroundRule}
use Rattle.ground_model.specs.Members.{IsMember}
use Rattle.ground_model.specs.Rules.{Rules, Literal, AtomHead, signed}
use Rattle.ground_model.specs.Derivable.{Holds, Derivable}
use Rattle.ground_model.specs.Rule.{ItemOf}
use Rattle.ground_model.specs.Truth.{relation_truth}
use Rattle.ground_model.specs.Model.{read, read_head, items_of, rules_with}
use Rattle.ground_model.specs.View.{relation_of, literal_of, item_of, head_of, rule_of}
use Rattle.ground_model.specs.World.{World}
use Rattle.ground_model.specs.Ways.{holds_from, Way, choice_way, head_ways, ways, gives, derivable}
use Rattle.ground_model.proofs.Bools.{and_elim, and_intro}
use Rattle.ground_model.proofs.MemberLemmas.{same_nat, any_member, member_any, member_map, map_member}
use Rattle.ground_model.proofs.Alike.{relation_alike}

pub flat_member : {X Y : Type 0} (f : X → List Y) (xs : List X) (y : Y) → IsMember (flat_map f xs) y → (x : X) × IsMember xs x × IsMember (f x) y
flat_member f [] y m = absurd m
flat_member {X} {Y} f (x ∷ xs) y m = go (parts (f x) m) (flat_member f xs y)
  where
    parts : (ys : List Y) → IsMember (ys ++ flat_map f xs) y → IsMember ys y ⊎ IsMember (flat_map f xs) y
    parts [] m = inr m
    parts (z ∷ ys) (inl e) = inl (inl e)
    parts (z ∷ ys) (inr m) = shift (parts ys m)
      where
        shift : IsMember ys y ⊎ IsMember (flat_map f xs) y → IsMember (z ∷ ys) y ⊎ IsMember (flat_map f xs) y
        shift (inl k) = inl (inr k)
        shift (inr k) = inr k

    go : IsMember (f x) y ⊎ IsMember (flat_map f xs) y → (IsMember (flat_map f xs) y → (z : X) × IsMember xs z × IsMember (f z) y) → (z : X) × IsMember (x ∷ xs) z × IsMember (f z) y
    go (inl k) rec = (x, inl refl, k)
    go (inr k) rec = let r = rec k in (r.0, inr r.1, r.2)

pub append_left : {Y : Type 0} (xs ys : List Y) (y : Y) → IsMember xs y → IsMember (xs ++ ys) y
append_left [] ys y m = absurd m
append_left (x ∷ xs) ys y (inl e) = inl e
append_left (x ∷ xs) ys y (inr m) = inr (append_left xs ys y m)

pub append_right : {Y : Type 0} (xs ys : List Y) (y : Y) → IsMember ys y → IsMember (xs ++ ys) y
append_right [] ys y m = m
append_right (x ∷ xs) ys y m = inr (append_right xs ys y m)

pub member_flat : {X Y : Type 0} (f : X → List Y) (xs : List X) (x : X) (y : Y) → IsMember xs x → IsMember (f x) y → IsMember (flat_map f xs) y
member_flat f [] x y m k = absurd m
member_flat f (z ∷ xs) x y (inl e) k = append_left (f z) (flat_map f xs) y (subst (λ w. IsMember (f w) y) e k)
member_flat f (z ∷ xs) x y (inr m) k = append_right (f z) (flat_map f xs) y (member_flat f xs x y m k)

pub all_append : {X : Type 0} (test : X → Bool) (xs ys : List X) → list_all test xs ≡ true → list_all test ys ≡ true → list_all test (xs ++ ys) ≡ true
all_append test [] ys p q = q
all_append test (x ∷ xs) ys p q =
    let r = and_elim (test x) (list_all test xs) p in and_intro (test x) (list_all test (xs ++ ys)) r.0 (all_append test xs ys r.1 q)

pub all_parts : {X : Type 0} (test : X → Bool) (xs ys : List X) → list_all test (xs ++ ys) ≡ true → (list_all test xs ≡ true) × (list_all test ys ≡ true)
all_parts test [] ys e = (refl, e)
all_parts test (x ∷ xs) ys e =
    let r = and_elim (test x) (list_all test (xs ++ ys)) e in
    let s = all_parts test xs ys r.1 in
    (and_intro (test x) (list_all test xs) r.0 s.0, s.1)

module _ (symbols : List Symbol) (rules : List GroundRule) (world : World) where
  abbrev pub family : Rules ℕ
  family = rules_with (λ rule. IsMember (map (rule_of symbols) rules) rule) world.values

  -- the literals of a body as the family has them
  abbrev pub read_all : List BodyLit → List (Literal ℕ)
  read_all body = map (read world.values) (map (literal_of symbols) body)

  same_relation : (sign : Bool) (relation : _) → signed sign (relation_truth world.values (relation_of symbols relation)) ≡ signed sign (relation_truth world.values (relation_of [] relation))
  same_relation sign relation = ap (signed sign) (relation_alike world.values symbols [] relation)

  pub body_up : (lower : ℕ → Bool) (P : ℕ → Type 0) → ((a : ℕ) → lower a ≡ true → P a) → (body : List BodyLit)
      → list_all (holds_from lower world) body ≡ true → AllByRecursion (Holds world.atoms P) (read_all body)
  body_up lower P f [] e = tt
  body_up lower P f (b.Atom a true ∷ body) e =
      let p = and_elim (lower a) (list_all (holds_from lower world) body) e in (f a p.0, body_up lower P f body p.1)
  body_up lower P f (b.Atom a false ∷ body) e =
      let p = and_elim (not (world.atoms a)) (list_all (holds_from lower world) body) e in (p.0, body_up lower P f body p.1)
  body_up lower P f (b.Theory relation sign ∷ body) e =
      let p = and_elim (signed sign (relation_truth world.values (relation_of [] relation))) (list_all (holds_from lower world) body) e in
      (same_relation sign relation ∙ p.0, body_up lower P f body p.1)

  pub body_down : (lower : ℕ → Bool) (P : ℕ → Type 0) → ((a : ℕ) → P a → lower a ≡ true) → (body : List BodyLit)
      → AllByRecursion (Holds world.atoms P) (read_all body) → list_all (holds_from lower world) body ≡ true
  body_down lower P f [] e = refl
  body_down lower P f (b.Atom a true ∷ body) e =
      and_intro (lower a) (list_all (holds_from lower world) body) (f a e.0) (body_down lower P f body e.1)
  body_down lower P f (b.Atom a false ∷ body) e =
      and_intro (not (world.atoms a)) (list_all (holds_from lower world) body) e.0 (body_down lower P f body e.1)
  body_down lower P f (b.Theory relation sign ∷ body) e =
      and_intro (signed sign (relation_truth world.values (relation_of [] relation))) (list_all (holds_from lower world) body)
      (sym (same_relation sign relation) ∙ e.0) (body_down lower P f body e.1)

  -- what a rule of the list is in the family
  pub name_of_rule : (rule : GroundRule) → IsMember rules rule → family.Name
  name_of_rule rule m = (rule_of symbols rule, member_map (rule_of symbols) rules rule m)

  module _ (rank a : ℕ) where
    abbrev lower : ℕ → Bool
    lower = derivable rules world rank

    abbrev P : ℕ → Type 0
    P = Derivable family world.atoms rank

    by_head : (rule : GroundRule) → IsMember rules rule → (head : GroundHead) → rule.head ≡ head → (way : Way) → IsMember (head_ways rule.body head) way
        → gives lower world a way ≡ true → ((c : ℕ) → lower c ≡ true → P c) → Derivable family world.atoms (suc rank) a
    by_head rule m h.Nothing e way k g rec = absurd k
    by_head rule m (h.Theory theory) e way k g rec = absurd k
    by_head rule m (h.Atom c) e way (inr k) g rec = absurd k
    by_head rule m (h.Atom c) e way (inl k) g rec =
        let g = subst (λ v. gives lower world a v ≡ true) k g in
        let p = and_elim ((c == a) && true) (list_all (holds_from lower world) rule.body) g in
        let s : c ≡ a = eqb-true c a (and_elim (c == a) true p.0).0 in
        let n : family.Name = (rule_of symbols rule, member_map (rule_of symbols) rules rule m) in
        inl (n, ap (λ head. read_head world.values (head_of symbols head)) e ∙ ap AtomHead s, body_up lower P rec rule.body p.1)
    by_head rule m (h.Choice choice) e way k g rec =
        let i = map_member (choice_way rule.body) choice.items way k in
        let g = subst (λ v. gives lower world a v ≡ true) i.2 g in
        let p = and_elim ((i.0.atom == a) && world.atoms a) (list_all (holds_from lower world) (rule.body ++ i.0.condition)) g in
        let q = and_elim (i.0.atom == a) (world.atoms a) p.0 in
        let s : i.0.atom ≡ a = eqb-true i.0.atom a q.0 in
        let u = all_parts (holds_from lower world) rule.body i.0.condition p.1 in
        let n : family.Name = (rule_of symbols rule, member_map (rule_of symbols) rules rule m) in
        let k : IsMember (items_of (head_of symbols rule.head)) (item_of symbols i.0) =
        subst (λ head. IsMember (items_of (head_of symbols head)) (item_of symbols i.0)) (sym e) (member_map (item_of symbols) choice.items i.0 i.1) in
        inr (n, (item_of symbols i.0, k), s, q.1, body_up lower P rec rule.body u.0, body_up lower P rec i.0.condition u.1)

    by_atom : (rule : GroundRule) → IsMember rules rule → (head : GroundHead) → rule.head ≡ head → read_head world.values (head_of symbols head) ≡ AtomHead a
        → list_all (holds_from lower world) rule.body ≡ true → derivable rules world (suc rank) a ≡ true
    by_atom rule m h.Nothing e k t = cc
    by_atom rule m (h.Theory theory) e k t = cc
    by_atom rule m (h.Choice choice) e k t = cc
    by_atom rule m (h.Atom c) e k t =
        let s : c ≡ a = cc in
        let way : Way = record { atom = c; body = rule.body; is_choice = false } in
        let w : IsMember (head_ways rule.body rule.head) way = subst (λ head. IsMember (head_ways rule.body head) way) (sym e) (inl refl) in
        any_member (gives lower world a) (ways rules) way (member_flat (λ r. head_ways r.body r.head) rules rule way m w)
        (and_intro ((c == a) && true) (list_all (holds_from lower world) rule.body) (and_intro (c == a) true (same_nat c a s) refl) t)

    by_item : (rule : GroundRule) → IsMember rules rule → (head : GroundHead) → rule.head ≡ head → (item : ItemOf ℕ ℕ) → IsMember (items_of (head_of symbols head)) item
        → item.atom ≡ a → world.atoms a ≡ true → ((c : ℕ) → P c → lower c ≡ true) → list_all (holds_from lower world) rule.body ≡ true
        → AllByRecursion (Holds world.atoms P) (map (read world.values) item.condition) → derivable rules world (suc rank) a ≡ true
    by_item rule m h.Nothing e item k s t rec p q = absurd k
    by_item rule m (h.Theory theory) e item k s t rec p q = absurd k
    by_item rule m (h.Atom c) e item k s t rec p q = absurd k
    by_item rule m (h.Choice choice) e item k s t rec p q =
        let i = map_member (item_of symbols) choice.items item k in
        let s : i.0.atom ≡ a = ap (λ z. z.atom) (sym i.2) ∙ s in
        let c = body_down lower P rec i.0.condition (subst (λ z. AllByRecursion (Holds world.atoms P) (map (read world.values) z.condition)) i.2 q) in
        let way : Way = choice_way rule.body i.0 in
        let w : IsMember (head_ways rule.body rule.head) way =
        subst (λ head. IsMember (head_ways rule.body head) way) (sym e) (member_map (choice_way rule.body) choice.items i.0 i.1) in
        any_member (gives lower world a) (ways rules) way (member_flat (λ r. head_ways r.body r.head) rules rule way m w)
        (and_intro ((i.0.atom == a) && world.atoms a) (list_all (holds_from lower world) (rule.body ++ i.0.condition))
        (and_intro (i.0.atom == a) (world.atoms a) (same_nat i.0.atom a s) t)
        (all_append (holds_from lower world) rule.body i.0.condition p c))

    by_cases : Derivable family world.atoms (suc rank) a → ((c : ℕ) → P c → lower c ≡ true) → derivable rules world (suc rank) a ≡ true
    by_cases (inl d) rec =
        let r = map_member (rule_of symbols) rules d.0.0 d.0.1 in
        by_atom r.0 r.1 r.0.head refl (ap (λ z. read_head world.values z.head) (sym r.2) ∙ d.1)
        (body_down lower P rec r.0.body (subst (λ z. AllByRecursion (Holds world.atoms P) (map (read world.values) z.body)) r.2 d.2))
    by_cases (inr d) rec =
        let r = map_member (rule_of symbols) rules d.0.0 d.0.1 in
        by_item r.0 r.1 r.0.head refl d.1.0 (subst (λ z. IsMember (items_of z.head) d.1.0) r.2 d.1.1) d.2 d.3 rec
        (body_down lower P rec r.0.body (subst (λ z. AllByRecursion (Holds world.atoms P) (map (read world.values) z.body)) r.2 d.4)) d.5

  pub derivable_from_test : (rank a : ℕ) → derivable rules world rank a ≡ true → Derivable family world.atoms rank a
  derivable_from_test zero a e = absurd (true≢false (sym e))
  derivable_from_test (suc rank) a e =
      let w = member_any (gives (derivable rules world rank) world a) (ways rules) e in
      let r = flat_member (λ rule. head_ways rule.body rule.head) rules w.0 w.1 in
      by_head rank a r.0 r.1 r.0.head refl w.0 r.2 w.2 (derivable_from_test rank)

  pub test_from_derivable : (rank a : ℕ) → Derivable family world.atoms rank a → derivable rules world rank a ≡ true
  test_from_derivable zero a d = absurd d
  test_from_derivable (suc rank) a d = by_cases rank a d (test_from_derivable rank)
