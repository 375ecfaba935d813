-- All that a search works with, put together from what its steps leave.
use Rattle.std.proofs.Common.{◌≡◌, ℕ, Bool, true, false, List, [], ◌∷◌, ◌++◌, map, sym, ◌∙◌, ap, subst}
use Rattle.symbols.specs.declared.ends.Ends.{Ends}
use Rattle.literals.specs.declared.lit.Lit.{Lit}
use Rattle.ground_model.specs.declared.program.GroundProgram.{GroundProgram}
use Rattle.trail.specs.declared.entry.Entry.{Entry}
use Rattle.trail.specs.Assignment.{Assignment}
use Rattle.nogood_store.specs.Holding.{Held, Holding}
use Rattle.derivation_meaning.specs.State.{holds_empty, is_empty}
use Rattle.propagator_core.specs.Meaning.{Meaning}
use Rattle.propagator_core.specs.Several.{AllStand}
use Rattle.propagation.specs.Waking.{Rows, OthersRest}
use Rattle.learning.specs.Known.{Known, state_of}
use Rattle.search_core.specs.inner.Invariant.{IsSearch}
use Rattle.search_laws.proofs.HoldLaws.{closed_push}

-- what stands of these propagators stands of the same ones as a vector has them
pub same_search : {X : Type 0} (meaning : X → Meaning) (program : GroundProgram) (known : Known) (holding : Holding) (t : Assignment) (rows : Rows) (xs ys : List X) → ys ≡ xs
    → IsSearch program known holding t (map meaning xs) rows → IsSearch program known holding t (map meaning ys) rows
same_search meaning program known holding t rows xs ys e s = subst (λ zs. IsSearch program known holding t (map meaning zs) rows) (sym e) s

pub same_stand : {X : Type 0} (stands : X → Ends → List Entry → Type 0) (looked : X → ℕ) (xs ys : List X) (t : Assignment) → ys ≡ xs → AllStand stands looked xs t → AllStand stands looked ys t
same_stand stands looked xs ys t e a = subst (λ zs. AllStand stands looked zs t) (sym e) a

pub same_rest : {X : Type 0} (meaning : X → Meaning) (places : List ℕ) (xs ys : List X) (t : Assignment) → ys ≡ xs → OthersRest places (map meaning xs) t → OthersRest places (map meaning ys) t
same_rest meaning places xs ys t e a = subst (λ zs. OthersRest places (map meaning zs) t) (sym e) a

-- what the store holds then
pub held_then : (before middle after : List Held) (id : ℕ) (n m : List Lit) → after ≡ middle ++ record { id = id; nogood = n } ∷ [] → middle ≡ before → n ≡ m → after ≡ before ++ record { id = id; nogood = m } ∷ []
held_then before middle after id n m e f g = e ∙ ap (λ hs. hs ++ record { id = id; nogood = n } ∷ []) f ∙ ap (λ x. before ++ record { id = id; nogood = x } ∷ []) g

-- whether the empty nogood is held then
pub closed_then : (before after : List Held) (known then : Known) (id : ℕ) (n : List Lit) (was is : Bool) → was ≡ holds_empty (state_of before known) → was ≡ false → after ≡ before ++ record { id = id; nogood = n } ∷ [] → is ≡ is_empty n
    → is ≡ holds_empty (state_of after then)
closed_then before after known then id n was is e f more test =
    test ∙ closed_push before known then (record { id = id; nogood = n }) (sym e ∙ f) ∙ ap (λ hs. holds_empty (state_of hs then)) (sym more)

-- a nogood is not empty where no empty one is held then
pub some_then : (is : Bool) (n : List Lit) → is ≡ is_empty n → is ≡ false → n ≡ [] → ⊥
some_then is n test f e = let no : true ≡ false = sym (ap is_empty e) ∙ sym test ∙ f in absurd (cc)
