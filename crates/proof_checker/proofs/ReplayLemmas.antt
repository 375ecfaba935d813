-- Chains step by step.
use Rattle.std.proofs.Common.{◌≡◌, ◌<◌, ◌+◌, drop, get_or, length, ℕ, ◌==◌, Bool, true, false, cond, List, [], ◌∷◌, map, Option, None, Some, is_some, refl, sym, ◌∙◌, ap}
use Rattle.std.specs.List.{find}
use Rattle.literals.specs.declared.lit.Lit.{Lit}
use Rattle.literals.specs.Nogoods.{IsNogood, canonical, resolved_with}
use Rattle.literals.proofs.Puts.{joined-nil}
use Rattle.ground_model.proofs.Products.{drop_next}
use Rattle.proof_checker.specs.declared.live.Live.{Live}
use Rattle.proof_checker.specs.declared.state.PlainState.{PlainState}
use Rattle.derivation_meaning.specs.State.{Entry, nogood_in, live_nogood}
use Rattle.derivation_meaning.specs.Lines.{chained}
use Rattle.derivation_meaning.specs.Refusals.{is_live}
use Rattle.derivation_meaning.proofs.ChainLemmas.{live_there}
use Rattle.proof_checker.specs.inner.Replay.{found_in, chain_in}
use Rattle.proof_checker.specs.inner.View.{entry_of, state_of}

pub none_stays : (live : List Live) (links : List (Lit × ℕ)) → chain_in live None links ≡ None
none_stays live [] = refl
none_stays live (link ∷ links) = none_stays live links

pub canonical_same : (lits : List Lit) → IsNogood lits → canonical lits ≡ lits
canonical_same lits nogood = joined-nil lits nogood.rises

found_is : (live : List Live) (id : ℕ) → nogood_in (find (λ (entry : Entry). entry.id == id) (map entry_of live)) ≡ found_in live id
found_is [] id = refl
found_is (one ∷ rest) id = go (one.id == id) (found_is rest id)
  where
    go : (b : Bool) → nogood_in (find (λ (entry : Entry). entry.id == id) (map entry_of rest)) ≡ found_in rest id
        → nogood_in (cond b (Some (entry_of one)) (find (λ (entry : Entry). entry.id == id) (map entry_of rest))) ≡ cond b (Some one.nogood) (found_in rest id)
    go true e = refl
    go false e = e

chain_same : (plain : PlainState) (so_far : Option (List Lit)) (links : List (Lit × ℕ)) → chained (state_of plain) so_far links ≡ chain_in plain.table.live so_far links
chain_same plain so_far [] = refl
chain_same plain so_far (link ∷ links) =
    ap (λ right. chained (state_of plain) (resolved_with so_far link.0 right) links) (found_is plain.table.live link.1)
    ∙ chain_same plain (resolved_with so_far link.0 (found_in plain.table.live link.1)) links

pub chain_is : (plain : PlainState) (id : ℕ) (links : List (Lit × ℕ))
    → chained (state_of plain) (live_nogood (state_of plain) id) links ≡ chain_in plain.table.live (found_in plain.table.live id) links
chain_is plain id links =
    ap (λ first. chained (state_of plain) first links) (found_is plain.table.live id) ∙ chain_same plain (found_in plain.table.live id) links

pub none_from : (live : List Live) (links : List (Lit × ℕ)) (i : ℕ) (d : Lit × ℕ) (so_far first : List Lit) → i < length links
    → chain_in live (Some so_far) (drop i links) ≡ chain_in live (Some first) links
    → None ≡ resolved_with (Some so_far) (get_or links i d).0 (found_in live (get_or links i d).1)
    → None ≡ chain_in live (Some first) links
none_from live links i d so_far first below is stuck =
    let next : drop i links ≡ get_or links i d ∷ drop (i + 1) links = drop_next links i d below in
    sym (none_stays live (drop (i + 1) links)) ∙ ap (λ start. chain_in live start (drop (i + 1) links)) stuck
    ∙ ap (λ rest. chain_in live (Some so_far) rest) (sym next) ∙ is

-- whether the id is found
pub live_is : (plain : PlainState) (id : ℕ) → is_live (state_of plain) id ≡ is_some (found_in plain.table.live id)
live_is plain id = sym (live_there (state_of plain) id) ∙ ap is_some (found_is plain.table.live id)
