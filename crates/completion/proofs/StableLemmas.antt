-- Stable models by tests: what is derived from duties, and ranks.
use Rattle.std.proofs.Common.{◌≡◌, ℕ, zero, suc, Bool, true, false, not, ◌&&◌, ◌||◌, ◌==◌, inl, inr, List, [], ◌∷◌, refl, sym, ◌∙◌, ap, subst, true≢false, eqb-true}
use Rattle.std.specs.List.{list_all}
use Rattle.ground_model.specs.declared.rule.BodyLit.{BodyLit}
use Rattle.ground_model.specs.declared.rule.BodyLit.TheVariants as b
use Rattle.ground_model.specs.declared.rule.GroundHead.{GroundHead}
use Rattle.ground_model.specs.declared.rule.GroundHead.TheVariants as h
use Rattle.ground_model.specs.declared.rule.GroundRule.{GroundRule}
use Rattle.ground_model.specs.Members.{IsMember}
use Rattle.ground_model.specs.Duties.{head_holds, rule_holds}
use Rattle.ground_model.specs.Ways.{literal_holds, holds_from, Way, choice_way, head_ways, ways, gives, derivable}
use Rattle.ground_model.specs.World.{World}
use Rattle.ground_model.proofs.Bools.{and_elim, and_intro}
use Rattle.ground_model.proofs.MemberLemmas.{any_member, member_any, all_member, all_from_members, map_member}
use Rattle.ground_model.proofs.WayLemmas.{flat_member}

pub holds_true : (world : World) (lower : ℕ → Bool) → ((a : ℕ) → lower a ≡ true → world.atoms a ≡ true) → (literal : BodyLit) → holds_from lower world literal ≡ true → literal_holds world literal ≡ true
holds_true world lower f (b.Atom a true) e = f a e
holds_true world lower f (b.Atom a false) e = e
holds_true world lower f (b.Theory relation sign) e = e

pub body_true : (world : World) (lower : ℕ → Bool) → ((a : ℕ) → lower a ≡ true → world.atoms a ≡ true) → (body : List BodyLit) → list_all (holds_from lower world) body ≡ true → list_all (literal_holds world) body ≡ true
body_true world lower f [] e = refl
body_true world lower f (x ∷ body) e =
    let p = and_elim (holds_from lower world x) (list_all (holds_from lower world) body) e in
    and_intro (literal_holds world x) (list_all (literal_holds world) body) (holds_true world lower f x p.0) (body_true world lower f body p.1)

-- the parts of a way that gives an atom
pub record IsGiven (world : World) (lower : ℕ → Bool) (a : ℕ) (way : Way) : Type 0 where
  pub atom : way.atom ≡ a
  pub chosen : (not way.is_choice || world.atoms a) ≡ true
  pub body : list_all (holds_from lower world) way.body ≡ true

pub given_parts : (world : World) (lower : ℕ → Bool) (a : ℕ) (way : Way) → gives lower world a way ≡ true → IsGiven world lower a way
given_parts world lower a way e =
    let p = and_elim ((way.atom == a) && (not way.is_choice || world.atoms a)) (list_all (holds_from lower world) way.body) e in
    let q = and_elim (way.atom == a) (not way.is_choice || world.atoms a) p.0 in
    record { atom = eqb-true way.atom a q.0; chosen = q.1; body = p.1 }

pub given_from : (world : World) (lower : ℕ → Bool) (a : ℕ) (way : Way) → IsGiven world lower a way → gives lower world a way ≡ true
given_from world lower a way g =
    and_intro ((way.atom == a) && (not way.is_choice || world.atoms a)) (list_all (holds_from lower world) way.body)
    (and_intro (way.atom == a) (not way.is_choice || world.atoms a) (Rattle.ground_model.proofs.MemberLemmas.same_nat way.atom a g.atom) g.chosen) g.body

module _ (rules : List GroundRule) (world : World) where
  -- what is derivable is in the world, where each rule's duty is done
  pub closed_from_duties : list_all (rule_holds world) rules ≡ true → (a rank : ℕ) → derivable rules world rank a ≡ true → world.atoms a ≡ true
  closed_from_duties duties a zero e = absurd (true≢false (sym e))
  closed_from_duties duties a (suc rank) e =
      let w = member_any (gives (derivable rules world rank) world a) (ways rules) e in
      let f = flat_member (λ rule. head_ways rule.body rule.head) rules w.0 w.1 in
      by_head f.0 f.0.head (all_member (rule_holds world) rules f.0 duties f.1) w.0 f.2 (given_parts world (derivable rules world rank) a w.0 w.2) (λ b. closed_from_duties duties b rank)
    where
      holds : (x y : Bool) → x ≡ true → (not x || y) ≡ true → y ≡ true
      holds true y p q = q
      holds false y p q = absurd (true≢false (sym p))

      by_head : (rule : GroundRule) (head : GroundHead) → (not (list_all (literal_holds world) rule.body) || head_holds world head) ≡ true
          → (way : Way) → IsMember (head_ways rule.body head) way → IsGiven world (derivable rules world rank) a way
          → ((b : ℕ) → derivable rules world rank b ≡ true → world.atoms b ≡ true) → world.atoms a ≡ true
      by_head rule h.Nothing t way m g rec = absurd m
      by_head rule (h.Theory theory) t way m g rec = absurd m
      by_head rule (h.Atom c) t way (inr m) g rec = absurd m
      by_head rule (h.Atom c) t way (inl s) g rec =
          let body : list_all (literal_holds world) way.body ≡ true = body_true world (derivable rules world rank) rec way.body g.body in
          let body : list_all (literal_holds world) rule.body ≡ true = subst (λ (w : Way). list_all (literal_holds world) w.body ≡ true) s body in
          let atom : c ≡ a = sym (ap (λ w. w.atom) s) ∙ g.atom in
          subst (λ x. world.atoms x ≡ true) atom (holds (list_all (literal_holds world) rule.body) (world.atoms c) body t)
      by_head rule (h.Choice choice) t way m g rec =
          let i = map_member (choice_way rule.body) choice.items way m in
          subst (λ (w : Way). (not w.is_choice || world.atoms a) ≡ true) i.2 g.chosen

  from_mono : (f g : ℕ → Bool) → ((a : ℕ) → f a ≡ true → g a ≡ true) → (body : List BodyLit) → list_all (holds_from f world) body ≡ true → list_all (holds_from g world) body ≡ true
  from_mono f g k [] e = refl
  from_mono f g k (x ∷ body) e =
      let p = and_elim (holds_from f world x) (list_all (holds_from f world) body) e in
      and_intro (holds_from g world x) (list_all (holds_from g world) body) (one x p.0) (from_mono f g k body p.1)
    where
      one : (x : BodyLit) → holds_from f world x ≡ true → holds_from g world x ≡ true
      one (b.Atom a true) e = k a e
      one (b.Atom a false) e = e
      one (b.Theory relation sign) e = e

  -- what is derivable at a rank is so at the next
  pub derivable_next : (a rank : ℕ) → derivable rules world rank a ≡ true → derivable rules world (suc rank) a ≡ true
  derivable_next a zero e = absurd (true≢false (sym e))
  derivable_next a (suc rank) e =
      let w = member_any (gives (derivable rules world rank) world a) (ways rules) e in
      let g = given_parts world (derivable rules world rank) a w.0 w.2 in
      any_member (gives (derivable rules world (suc rank)) world a) (ways rules) w.0 w.1
      (given_from world (derivable rules world (suc rank)) a w.0
      (record { atom = g.atom; chosen = g.chosen; body = from_mono (derivable rules world rank) (derivable rules world (suc rank)) (λ b. derivable_next b rank) w.0.body g.body }))
