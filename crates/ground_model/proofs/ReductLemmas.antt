-- What is derivable is what the reduct gives.
use Rattle.std.proofs.Common.{◌≡◌, ◌<◌, ◌-◌, inl, inr, ℕ, zero, suc, Bool, true, false, cond, not, ◌&&◌, ◌||◌, ◌==◌, nat_lt, nat_le, List, [], ◌∷◌, filter, refl, sym, ◌∙◌, ap, subst, true≢false, eqb-true, arith}
use Rattle.std.specs.List.{AllByRecursion, list_all}
use Rattle.std.proofs.lemmas.Bool.Decides.{nat_tests}
use Rattle.symbols.specs.declared.ends.Ends.{Ends}
use Rattle.definite_rules.specs.Least as definite
use Rattle.ground_model.specs.declared.rule.BodyLit.{BodyLit}
use Rattle.ground_model.specs.declared.rule.BodyLit.TheVariants as b
use Rattle.ground_model.specs.declared.rule.GroundHead.{GroundHead}
use Rattle.ground_model.specs.declared.rule.GroundHead.TheVariants as h
use Rattle.ground_model.specs.declared.rule.GroundRule.{GroundRule}
use Rattle.ground_model.specs.Members.{IsMember}
use Rattle.ground_model.specs.Sound.{is_number, is_sound_literal, is_sound_condition, is_sound_item, is_sound_head, is_sound_rule, are_sound_rules}
use Rattle.ground_model.specs.World.{World}
use Rattle.ground_model.specs.Ways.{literal_holds, holds_from, Way, choice_way, head_ways, ways, gives, derivable}
use Rattle.ground_model.specs.Reduct.{positives, rest_holds, is_kept, definite_of, reduct}
use Rattle.ground_model.proofs.Bools.{and_elim, and_intro}
use Rattle.ground_model.proofs.MemberLemmas.{same_nat, any_member, member_any, all_member, member_map, map_member, member_contains, contains_member}
use Rattle.ground_model.proofs.WayLemmas.{flat_member, all_append}

pub member_filter : {X : Type 0} (test : X → Bool) (xs : List X) (x : X) → IsMember xs x → test x ≡ true → IsMember (filter test xs) x
member_filter test [] x m e = absurd m
member_filter {X} test (y ∷ ys) x m e = go (test y) refl m (member_filter test ys x)
  where
    go : (t : Bool) → test y ≡ t → IsMember (y ∷ ys) x → (IsMember ys x → test x ≡ true → IsMember (filter test ys) x) → IsMember (cond t (y ∷ filter test ys) (filter test ys)) x
    go true q (inl p) rec = inl p
    go true q (inr k) rec = inr (rec k e)
    go false q (inl p) rec = absurd (true≢false (sym (subst (λ z. test z ≡ true) p e) ∙ q))
    go false q (inr k) rec = rec k e

pub filter_member : {X : Type 0} (test : X → Bool) (xs : List X) (x : X) → IsMember (filter test xs) x → IsMember xs x × (test x ≡ true)
filter_member test [] x m = absurd m
filter_member {X} test (y ∷ ys) x m = go (test y) refl m (filter_member test ys x)
  where
    go : (t : Bool) → test y ≡ t → IsMember (cond t (y ∷ filter test ys) (filter test ys)) x → (IsMember (filter test ys) x → IsMember ys x × (test x ≡ true)) → IsMember (y ∷ ys) x × (test x ≡ true)
    go true q (inl p) rec = (inl p, subst (λ z. test z ≡ true) (sym p) q)
    go true q (inr k) rec = let r = rec k in (inr r.0, r.1)
    go false q k rec = let r = rec k in (inr r.0, r.1)

pub filter_all : {X : Type 0} (test : X → Bool) (xs : List X) → list_all test xs ≡ true → filter test xs ≡ xs
filter_all test [] e = refl
filter_all {X} test (x ∷ xs) e = let p = and_elim (test x) (list_all test xs) e in go (test x) p.0 (filter_all test xs p.1)
  where
    go : (t : Bool) → t ≡ true → filter test xs ≡ xs → cond t (x ∷ filter test xs) (filter test xs) ≡ x ∷ xs
    go true q r = ap (λ ys. x ∷ ys) r
    go false q r = absurd (true≢false (sym q))

-- an atom that a literal names is at least 1
abbrev pub is_counted : BodyLit → Bool
is_counted (b.Atom a sign) = nat_lt 0 a
is_counted (b.Theory relation sign) = true

pub record IsCounted (way : Way) : Type 0 where
  pub atom : 0 < way.atom
  pub body : list_all is_counted way.body ≡ true

module _ (rules : List GroundRule) (world : World) where
  split_body : (lower : ℕ → Bool) (Q : ℕ → Type 0) → ((a : ℕ) → lower a ≡ true → Q (a - 1)) → (body : List BodyLit) → list_all (holds_from lower world) body ≡ true
      → (list_all (rest_holds world) body ≡ true) × AllByRecursion Q (positives body)
  split_body lower Q f [] e = (refl, tt)
  split_body lower Q f (b.Atom a true ∷ body) e =
      let p = and_elim (lower a) (list_all (holds_from lower world) body) e in
      let r = split_body lower Q f body p.1 in (r.0, (f a p.0, r.1))
  split_body lower Q f (b.Atom a false ∷ body) e =
      let p = and_elim (literal_holds world (b.Atom a false)) (list_all (holds_from lower world) body) e in
      let r = split_body lower Q f body p.1 in
      (and_intro (literal_holds world (b.Atom a false)) (list_all (rest_holds world) body) p.0 r.0, r.1)
  split_body lower Q f (b.Theory relation sign ∷ body) e =
      let p = and_elim (literal_holds world (b.Theory relation sign)) (list_all (holds_from lower world) body) e in
      let r = split_body lower Q f body p.1 in
      (and_intro (literal_holds world (b.Theory relation sign)) (list_all (rest_holds world) body) p.0 r.0, r.1)

  join_body : (lower : ℕ → Bool) (Q : ℕ → Type 0) → ((a : ℕ) → 0 < a → Q (a - 1) → lower a ≡ true) → (body : List BodyLit) → list_all is_counted body ≡ true
      → list_all (rest_holds world) body ≡ true → AllByRecursion Q (positives body) → list_all (holds_from lower world) body ≡ true
  join_body lower Q f [] c e q = refl
  join_body lower Q f (b.Atom a true ∷ body) c e q =
      let n = and_elim (nat_lt 0 a) (list_all is_counted body) c in
      let below : 0 < a = let t = n.0 in grind (arith, nat_tests) in
      and_intro (lower a) (list_all (holds_from lower world) body) (f a below q.0) (join_body lower Q f body n.1 e q.1)
  join_body lower Q f (b.Atom a false ∷ body) c e q =
      let n = and_elim (nat_lt 0 a) (list_all is_counted body) c in
      let p = and_elim (literal_holds world (b.Atom a false)) (list_all (rest_holds world) body) e in
      and_intro (literal_holds world (b.Atom a false)) (list_all (holds_from lower world) body) p.0 (join_body lower Q f body n.1 p.1 q)
  join_body lower Q f (b.Theory relation sign ∷ body) c e q =
      let p = and_elim (literal_holds world (b.Theory relation sign)) (list_all (rest_holds world) body) e in
      and_intro (literal_holds world (b.Theory relation sign)) (list_all (holds_from lower world) body) p.0 (join_body lower Q f body c p.1 q)

  pub reduct_up : (rank a : ℕ) → derivable rules world rank a ≡ true → definite.Derivable (reduct rules world) rank (a - 1)
  reduct_up zero a e = absurd (true≢false (sym e))
  reduct_up (suc rank) a e =
      let w = member_any (gives (derivable rules world rank) world a) (ways rules) e in
      let p = and_elim ((w.0.atom == a) && (not w.0.is_choice || world.atoms a)) (list_all (holds_from (derivable rules world rank) world) w.0.body) w.2 in
      let q = and_elim (w.0.atom == a) (not w.0.is_choice || world.atoms a) p.0 in
      let s : w.0.atom ≡ a = eqb-true w.0.atom a q.0 in
      let r = split_body (derivable rules world rank) (definite.Derivable (reduct rules world) rank) (reduct_up rank) w.0.body p.1 in
      let k : is_kept world w.0 ≡ true =
      and_intro (not w.0.is_choice || world.atoms w.0.atom) (list_all (rest_holds world) w.0.body)
      (subst (λ c. (not w.0.is_choice || world.atoms c) ≡ true) (sym s) q.1) r.0 in (
        definite_of w.0,
        member_contains (reduct rules world) (definite_of w.0)
            (member_map definite_of (filter (is_kept world) (ways rules)) w.0 (member_filter (is_kept world) (ways rules) w.0 w.1 k)),
        ap (λ c. c - 1) s,
        r.1,
      )

  pub reduct_down : ((way : Way) → IsMember (ways rules) way → IsCounted way) → (rank a : ℕ) → 0 < a → definite.Derivable (reduct rules world) rank (a - 1) → derivable rules world rank a ≡ true
  reduct_down counted zero a n d = absurd d
  reduct_down counted (suc rank) a n d =
      let m = map_member definite_of (filter (is_kept world) (ways rules)) d.0 (contains_member (reduct rules world) d.0 d.1) in
      let w = filter_member (is_kept world) (ways rules) m.0 m.1 in
      let c = counted m.0 w.0 in
      let above = c.atom in
      let same_place : m.0.atom - 1 ≡ a - 1 = ap (λ rule. rule.head) (sym m.2) ∙ d.2 in
      let s : m.0.atom ≡ a = omega arith in
      let k = and_elim (not m.0.is_choice || world.atoms m.0.atom) (list_all (rest_holds world) m.0.body) w.1 in
      let body = join_body (derivable rules world rank) (definite.Derivable (reduct rules world) rank) (reduct_down counted rank) m.0.body c.body k.1
      (subst (λ rule. AllByRecursion (definite.Derivable (reduct rules world) rank) rule.body) m.2 d.3) in
      any_member (gives (derivable rules world rank) world a) (ways rules) m.0 w.0
      (and_intro ((m.0.atom == a) && (not m.0.is_choice || world.atoms a)) (list_all (holds_from (derivable rules world rank) world) m.0.body)
      (and_intro (m.0.atom == a) (not m.0.is_choice || world.atoms a) (same_nat m.0.atom a s)
      (subst (λ c. (not m.0.is_choice || world.atoms c) ≡ true) s k.0)) body)

-- SOUND RULES ARE COUNTED FROM 1

module _ (symbols atoms variables : ℕ) (ends : Ends) where
  number_above : (a : ℕ) → is_number atoms a ≡ true → nat_lt 0 a ≡ true
  number_above a e = (and_elim (nat_lt 0 a) (nat_le a atoms) e).0

  above : (a : ℕ) → nat_lt 0 a ≡ true → 0 < a
  above a e = grind (arith, nat_tests)

  literals_counted : (body : List BodyLit) → list_all (is_sound_literal symbols atoms variables) body ≡ true → list_all is_counted body ≡ true
  literals_counted [] e = refl
  literals_counted (b.Atom a sign ∷ body) e =
      let p = and_elim (is_number atoms a) (list_all (is_sound_literal symbols atoms variables) body) e in
      and_intro (nat_lt 0 a) (list_all is_counted body) (number_above a p.0) (literals_counted body p.1)
  literals_counted (b.Theory relation sign ∷ body) e =
      literals_counted body (and_elim (is_sound_literal symbols atoms variables (b.Theory relation sign)) (list_all (is_sound_literal symbols atoms variables) body) e).1

  condition_counted : (body : List BodyLit) → list_all (is_sound_condition atoms) body ≡ true → list_all is_counted body ≡ true
  condition_counted [] e = refl
  condition_counted (b.Atom a sign ∷ body) e =
      let p = and_elim (is_number atoms a) (list_all (is_sound_condition atoms) body) e in
      and_intro (nat_lt 0 a) (list_all is_counted body) (number_above a p.0) (condition_counted body p.1)
  condition_counted (b.Theory relation sign ∷ body) e = absurd (true≢false (sym e))

  head_counted : (body : List BodyLit) → list_all is_counted body ≡ true → (head : GroundHead) → is_sound_head symbols atoms variables ends head ≡ true
      → (way : Way) → IsMember (head_ways body head) way → IsCounted way
  head_counted body c h.Nothing e way m = absurd m
  head_counted body c (h.Theory theory) e way m = absurd m
  head_counted body c (h.Atom a) e way (inl p) = subst IsCounted (sym p) (record { atom = above a (number_above a e); body = c })
  head_counted body c (h.Atom a) e way (inr m) = absurd m
  head_counted body c (h.Choice choice) e way m =
      let i = map_member (choice_way body) choice.items way m in
      let s = and_elim (is_number atoms i.0.atom) (list_all (is_sound_condition atoms) i.0.condition) (all_member (is_sound_item atoms) choice.items i.0 e i.1) in
      subst IsCounted (sym i.2) (record {
        atom = above i.0.atom (number_above i.0.atom s.0);
        body = all_append is_counted body i.0.condition c (condition_counted i.0.condition s.1);
      })

  pub ways_counted : (rules : List GroundRule) → are_sound_rules symbols atoms variables ends rules ≡ true → (way : Way) → IsMember (ways rules) way → IsCounted way
  ways_counted rules e way m =
      let r = flat_member (λ rule. head_ways rule.body rule.head) rules way m in
      let s = and_elim (list_all (is_sound_literal symbols atoms variables) r.0.body) (is_sound_head symbols atoms variables ends r.0.head)
      (all_member (is_sound_rule symbols atoms variables ends) rules r.0 e r.1) in
      head_counted r.0.body (literals_counted r.0.body s.0) r.0.head s.1 way r.2
