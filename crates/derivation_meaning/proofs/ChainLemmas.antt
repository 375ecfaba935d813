-- Which ids a chain needs.
use Rattle.std.proofs.Common.{◌≡◌, ℕ, ◌==◌, Bool, true, false, cond, ◌||◌, List, [], ◌∷◌, Option, None, Some, is_some, refl, sym, ◌∙◌, ap, true≢false}
use Rattle.std.specs.List.{find, list_all, list_any}
use Rattle.std.proofs.lemmas.Bool.{and_from}
use Rattle.literals.specs.declared.lit.Lit.{Lit}
use Rattle.derivation_meaning.specs.State.{Entry, State, nogood_in, live_nogood}
use Rattle.derivation_meaning.specs.Lines.{chained}
use Rattle.literals.specs.Nogoods.{resolved_with}
use Rattle.derivation_meaning.specs.Refusals.{is_live, are_live}

found_any : (live : List Entry) (id : ℕ) → is_some (nogood_in (find (λ (entry : Entry). entry.id == id) live)) ≡ list_any (λ (entry : Entry). entry.id == id) live
found_any [] id = refl
found_any (one ∷ rest) id = go (one.id == id) (found_any rest id)
  where
    go : (b : Bool) → is_some (nogood_in (find (λ (entry : Entry). entry.id == id) rest)) ≡ list_any (λ (entry : Entry). entry.id == id) rest
        → is_some (nogood_in (cond b (Some one) (find (λ (entry : Entry). entry.id == id) rest))) ≡ (b || list_any (λ (entry : Entry). entry.id == id) rest)
    go true e = refl
    go false e = e

-- a nogood has the id exactly where it is live
pub live_there : (state : State) (id : ℕ) → is_some (live_nogood state id) ≡ is_live state id
live_there state id = found_any state.live id

both_there : (left : Option (List Lit)) (pivot : Lit) (right : Option (List Lit)) → is_some (resolved_with left pivot right) ≡ true
    → (is_some left ≡ true) × (is_some right ≡ true)
both_there None pivot right e = absurd (true≢false (sym e))
both_there (Some left) pivot None e = absurd (true≢false (sym e))
both_there (Some left) pivot (Some right) e = (refl, refl)

some_from : (state : State) (links : List (Lit × ℕ)) (from : Option (List Lit)) (last : List Lit) → chained state from links ≡ Some last
    → (is_some from ≡ true) × (list_all (λ (link : Lit × ℕ). is_live state link.1) links ≡ true)
some_from state [] from last e = (ap is_some e, refl)
some_from state (link ∷ links) from last e =
    let p = some_from state links (resolved_with from link.0 (live_nogood state link.1)) last e in
    let q = both_there from link.0 (live_nogood state link.1) p.0 in
    (q.0, and_from (is_live state link.1) (list_all (λ (other : Lit × ℕ). is_live state other.1) links) (sym (live_there state link.1) ∙ q.1) p.1)

-- a chain that gives a list names live nogoods alone
pub learned_live : (state : State) (id : ℕ) (links : List (Lit × ℕ)) (lits : List Lit) → chained state (live_nogood state id) links ≡ Some lits
    → are_live state id links ≡ true
learned_live state id links lits e =
    let p = some_from state links (live_nogood state id) lits e in
    and_from (is_live state id) (list_all (λ (link : Lit × ℕ). is_live state link.1) links) (sym (live_there state id) ∙ p.0) p.1
