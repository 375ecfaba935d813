-- Why a theory atom has no collected form, from why its parts have none.
use Rattle.std.proofs.Common.{◌≡◌, ℕ, List, Result, Ok, Err, IfErr, refl, sym, subst}
use Rattle.symbols.specs.Symbol.{Symbol}
use Rattle.program_meaning.specs.Ascending.{Exceeds}
use Rattle.program_meaning.specs.Read.{ReadTheory, ReadRule}
use Rattle.program_meaning.specs.Substitution.{Value}
use Rattle.collected_elements.specs.declared.judged.ElementStop.{ElementStop}
use Rattle.collected_elements.specs.declared.judged.ElementStop.TheVariants as element_stop
use Rattle.theory_laws.specs.Collecting.{IsAtomOver, IsElementKey}
use Rattle.collected_atoms.specs.declared.atom.AtomStop.{AtomStop}
use Rattle.collected_atoms.specs.declared.atom.AtomStop.TheVariants as stop
use Rattle.collected_atoms.specs.Gathering.{IsAnswer}
use Rattle.collected_atoms.proofs.AnswerLemmas.{first_overflow}
use Rattle.theory_ground.specs.declared.collecting.CollectStop.{CollectStop}
use Rattle.theory_ground.specs.declared.elements.GatherStop.{GatherStop}
use Rattle.theory_ground.specs.declared.elements.GatherStop.TheVariants as gather_stop
use Rattle.theory_ground.specs.Collected.{IsStopOf}
use Rattle.theory_ground.specs.inner.Rows.{IsStopOfGathering, IsStopOfGuard, IsStopOfAtom}

module _ (P : Symbol → Type 0) (rule : ReadRule) (values : List Value) (theory : ReadTheory) (most : ℕ) where
  pub gathering_stop : (inner : GatherStop) (outer : CollectStop) → IsStopOfGathering inner outer → (inner ≡ gather_stop.Over → IsAtomOver P rule values theory)
      → (inner ≡ gather_stop.TooMany → Exceeds (IsElementKey P rule values theory) most) → IsStopOf P rule values theory most outer
  gathering_stop gather_stop.TooMany outer e over many = subst (IsStopOf P rule values theory most) (sym e) (many refl)
  gathering_stop gather_stop.Over outer e over many = subst (IsStopOf P rule values theory most) (sym e) (first_overflow P rule values theory (over refl))
  gathering_stop gather_stop.Memory outer e over many = subst (IsStopOf P rule values theory most) (sym e) tt

  pub guard_stop : (inner : ElementStop) (outer : CollectStop) → IsStopOfGuard inner outer → (inner ≡ element_stop.Over → IsAtomOver P rule values theory) → IsStopOf P rule values theory most outer
  guard_stop element_stop.Over outer e over = subst (IsStopOf P rule values theory most) (sym e) (first_overflow P rule values theory (over refl))
  guard_stop element_stop.Memory outer e over = subst (IsStopOf P rule values theory most) (sym e) tt

pub atom_stop : (symbols : List Symbol) (P : Symbol → Type 0) (rule : ReadRule) (values : List Value) (theory : ReadTheory) (most : ℕ) (inner : AtomStop) (outer : CollectStop) → IsStopOfAtom inner outer
    → IsAnswer symbols P rule values theory (Err inner) → IsStopOf P rule values theory most outer
atom_stop symbols P rule values theory most (stop.Outside cause) outer e h = subst (IsStopOf P rule values theory most) (sym e) h
atom_stop symbols P rule values theory most stop.Memory outer e h = subst (IsStopOf P rule values theory most) (sym e) tt

pub err_along : {A E : Type 0} (r : Result A E) (P Q : E → Type 0) → IfErr r P → ((x : E) → P x → Q x) → IfErr r Q
err_along (Ok a) P Q h f = h
err_along (Err e) P Q h f = f e h
