-- The number of a predicate, by a search for it.
use Rattle.std.proofs.Common.{◌≡◌, ◌↔◌, ℕ, zero, suc, ◌==◌, Bool, true, false, List, Some, slice_get, get_or, sym, ap, ◌∙◌, true≢false}
use Rattle.std.specs.List.{list_any, position}
use Rattle.std.proofs.lemmas.Bool.Decides.{Decides-eqb}
use Rattle.std.proofs.lemmas.List.Quantifiers.{position-Some}
use Rattle.std.proofs.lemmas.Map.Keys.{any_passes_from_place}
use Rattle.std.proofs.lemmas.Option.{slice_get-get_or}
use Rattle.std.proofs.lemmas.Slice.Eq.{bytes_eq-Decides}
use Rattle.std.specs.Str.{bytes_eq}
use Rattle.ground_model.proofs.Bools.{and_elim}
use Rattle.definite_rules.specs.Least.{flag_at}
use Rattle.predicate_order.specs.declared.predicate.Predicate.{Predicate}
use Rattle.predicate_order.specs.contracts.predicate.PredicatePartialEq.TheImpl.{ghosts as key}
use Rattle.predicate_order.specs.Ways.{NamedWay, ReachedIn, IsReached}
use Rattle.predicate_order.specs.Judged.{Judges}
use Rattle.predicate_order.proofs.Numbers.{key_equiv}

key_equal : (p q : Predicate) → key.eq p q ≡ true → p ≡ q
key_equal p q e =
    let parts = and_elim (bytes_eq p.name q.name) (p.count == q.count) e in
    let name : p.name ≡ q.name = (bytes_eq-Decides p.name q.name).0 parts.0 in
    let count : p.count ≡ q.count = (Decides-eqb p.count q.count).0 parts.1 in
    λ i. record { name = name i; count = count i }

pub found_at : (keys : List Predicate) (i : ℕ) (p : Predicate) → Some i ≡ position (key.eq p) keys → slice_get keys i ≡ Some p
found_at keys i p e =
    let r = position-Some (key.eq p) keys i p (sym e) in
    slice_get-get_or keys i p r.0 ∙ ap Some (sym (key_equal p (get_or keys i p) r.1))

pub judged_at : (keys : List Predicate) (flags : List Bool) (ways : List NamedWay) (i : ℕ) (p : Predicate) (b : Bool) → Some i ≡ position (key.eq p) keys → b ≡ flag_at flags i
    → Judges keys flags ways → (b ≡ true) ↔ IsReached ways p
judged_at keys flags ways i p b e f j =
    let h = j.flagged i p (found_at keys i p e) in ((λ t. h.0 (sym f ∙ t)), (λ r. f ∙ h.1 r))

pub unknown_reached : (keys : List Predicate) (flags : List Bool) (ways : List NamedWay) (p : Predicate) → false ≡ list_any (key.eq p) keys → Judges keys flags ways
    → IsReached ways p → ⊥
unknown_reached keys flags ways p e j r = at r.0 r.1
  where
    at : (rank : ℕ) → ReachedIn ways rank p → ⊥
    at zero d = d
    at (suc rank) d =
        let h = j.heads d.0 d.1 in
        true≢false (sym (any_passes_from_place (key.eq p) keys h.0 p (h.1 ∙ ap Some d.2) (key_equiv.refl p)) ∙ sym e)
