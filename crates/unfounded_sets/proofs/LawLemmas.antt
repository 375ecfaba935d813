-- Held nogoods at rest leave each atom that is not false a support that is not false.
use Rattle.std.proofs.Common.{◌≡◌, ◌⊎◌, inl, inr, ℕ, Bool, true, false, not, cond, ◌&&◌, ◌==◌, List, [], ◌∷◌, ◌++◌, map, filter, flat_map, length, Contains, refl, sym, ◌∙◌, ap, subst, eqb-true, None, Some}
use Rattle.std.specs.List.{AllByRecursion, list_any, range_with_len}
use Rattle.literals.specs.declared.lit.Lit.{Lit}
use Rattle.literals.specs.declared.lit.Lit.TheVariants as l
use Rattle.literals.proofs.Puts.{all_joined}
use Rattle.ground_model.specs.Members.{IsMember}
use Rattle.ground_model.proofs.Bools.{and_elim, and_intro, conflict, not_true}
use Rattle.ground_model.proofs.MemberLemmas.{any_member, member_any, property_member, contains_member, member_contains, map_member, member_map}
use Rattle.ground_model.proofs.WayLemmas.{append_right}
use Rattle.linear_normal.specs.declared.numbered.Support.{Support}
use Rattle.linear_normal.specs.Numbering.{contents_in, numbering}
use Rattle.linear_normal.specs.Bodies.{placed}
use Rattle.linear_normal.proofs.ListLemmas.{filter_member, numbered_range}
use Rattle.completion.specs.Inputs.{rule_nogoods, constraints_nogoods, supporting, atom_nogood, input_nogoods, all_false}
use Rattle.trail.specs.Assignment.{Assignment, is_true_on}
use Rattle.nogood_store.specs.Holding.{Held, IsHeld}
use Rattle.nogood_store.specs.Propagation as store
use Rattle.nogood_store.proofs.Members.{holds_contained, contains-has}
use Rattle.unfounded_sets.specs.Dependence.{Dependence}
use Rattle.unfounded_sets.specs.Laws.{HoldsLaw, RestLaw}
use Rattle.unfounded_sets.proofs.CanonicalLemmas.{canonical_has}

pub holds_law : HoldsLaw
holds_law program held inputs a is =
    property_member (IsHeld held) (input_nogoods program) (atom_nogood (numbering program).supports a) inputs
    (append_right
    (flat_map (rule_nogoods (contents_in program) (length program.atoms) (length program.variables)) (placed 1 program.rules) ++ constraints_nogoods 1 (numbering program).constraints)
    (map (atom_nogood (numbering program).supports) (range_with_len 1 (length program.atoms))) (atom_nogood (numbering program).supports a)
    (member_map (atom_nogood (numbering program).supports) (range_with_len 1 (length program.atoms)) a (numbered_range (length program.atoms) a is)))

module _ (d : Dependence) (t : Assignment) (a : ℕ) where
  -- a support of the atom that is not false
  abbrev stands : Support → Bool
  stands support = (support.atom == a) && not (is_true_on t (l.Body support.body false))

  falses : (P : Lit → Type 0) → ((b : ℕ) → is_true_on t (l.Body b false) ≡ true → P (l.Body b false)) → (bodies : List ℕ) → ((b : ℕ) → IsMember bodies b → is_true_on t (l.Body b false) ≡ true) → AllByRecursion P (all_false bodies)
  falses P f [] h = tt
  falses P f (b ∷ bodies) h = (f b (h b (inl refl)), falses P f bodies (λ c m. h c (inr m)))

  -- where none stands, each body that supports the atom is false
  are_false : list_any stands d.supports ≡ false → (b : ℕ) → IsMember (supporting d.supports a) b → is_true_on t (l.Body b false) ≡ true
  are_false none b m =
      let s = map_member (λ (support : Support). support.body) (filter (λ support. support.atom == a) d.supports) b m in
      let f = filter_member (λ (support : Support). support.atom == a) d.supports s.0 s.1 in
      subst (λ b. is_true_on t (l.Body b false) ≡ true) (sym s.2) (go s.0 f.0 f.1 (is_true_on t (l.Body s.0.body false)) refl)
    where
      go : (s : Support) → IsMember d.supports s → (s.atom == a) ≡ true → (b : Bool) → is_true_on t (l.Body s.body false) ≡ b → is_true_on t (l.Body s.body false) ≡ true
      go s k e true f = f
      go s k e false f = conflict (list_any stands d.supports) (any_member stands d.supports s k (and_intro (s.atom == a) (not (is_true_on t (l.Body s.body false))) e (ap not f))) none

  all_of : (P : Lit → Type 0) → P (l.Atom a true) → ((b : ℕ) → is_true_on t (l.Body b false) ≡ true → P (l.Body b false)) → list_any stands d.supports ≡ false → AllByRecursion P (atom_nogood d.supports a)
  all_of P first body none = all_joined P [] (l.Atom a true ∷ all_false (supporting d.supports a)) tt (first, falses P body (supporting d.supports a) (are_false none))

  -- then the nogood is all true, or its one open literal is that the atom is true
  not_quiet : list_any stands d.supports ≡ false → is_true_on t (l.Atom a false) ≡ false → store.IsQuiet t (atom_nogood d.supports a) → ⊥
  not_quiet none untrue quiet = go (is_true_on t (l.Atom a true)) refl
    where
      go : (b : Bool) → is_true_on t (l.Atom a true) ≡ b → ⊥
      go true e = quiet.not_met (λ lit c. holds_contained (λ lit. is_true_on t lit ≡ true) (atom_nogood d.supports a) lit (all_of (λ lit. is_true_on t lit ≡ true) e (λ b f. f) none) c)
      go false e =
          quiet.not_unit (l.Atom a true) (record {
            among = contains-has (atom_nogood d.supports a) (l.Atom a true) (canonical_has (l.Atom a true ∷ all_false (supporting d.supports a)) (l.Atom a true) tt (inl refl));
            is_open = ap (λ b. cond b (Some true) (cond (is_true_on t (l.Atom a false)) (Some false) None)) e ∙ ap (λ b. cond b (Some false) None) untrue;
            others = λ lit c. holds_contained (λ lit. (lit ≡ l.Atom a true) ⊎ (is_true_on t lit ≡ true)) (atom_nogood d.supports a) lit
                (all_of (λ lit. (lit ≡ l.Atom a true) ⊎ (is_true_on t lit ≡ true)) (inl refl) (λ b f. inr f) none) c;
          })

pub rest_law : RestLaw
rest_law d held t fits holds quiet a is untrue = go (list_any (stands d t a) d.supports) refl
  where
    at_rest : store.IsQuiet t (atom_nogood d.supports a)
    at_rest =
        let h = holds a is in
        subst (store.IsQuiet t) h.2 (property_member (λ (g : Held). store.IsQuiet t g.nogood) held h.0 quiet (contains_member held h.0 h.1))

    go : (b : Bool) → list_any (stands d t a) d.supports ≡ b → (support : Support) × Contains d.supports support × (support.atom ≡ a) × (is_true_on t (l.Body support.body false) ≡ false)
    go true e =
        let m = member_any (stands d t a) d.supports e in
        let p = and_elim (m.0.atom == a) (not (is_true_on t (l.Body m.0.body false))) m.2 in
        (m.0, member_contains d.supports m.0 m.1, eqb-true m.0.atom a p.0, not_true (is_true_on t (l.Body m.0.body false)) p.1)
    go false e = absurd (not_quiet d t a e untrue at_rest)
