-- The bound that an entry replaced.
use Rattle.std.proofs.Common.{◌≡◌, ℕ, zero, suc, ◌<◌, List, [], ◌∷◌, ◌++◌, length, take, get_or, Option, Some, ℤ, refl, sym, ◌∙◌, ap, subst, arith, append_assoc}
use Rattle.std.specs.Prelude.{slice_get}
use Rattle.std.proofs.lemmas.List.{append-nil}
use Rattle.symbols.specs.declared.ends.Ends.{Ends}
use Rattle.literals.specs.declared.lit.Lit.{Lit}
use Rattle.literals.specs.declared.lit.Lit.TheVariants.{Atom, Body, Constraint, AtMost, AtLeast}
use Rattle.trail.specs.declared.shape.Shape.{Shape}
use Rattle.trail.specs.declared.entry.Entry.{Entry}
use Rattle.trail.specs.declared.entry.Slot.{Slot}
use Rattle.trail.specs.Implied.{bound_before}
use Rattle.trail.specs.Assignment.{Assignment, lits_of}
use Rattle.trail.specs.inner.Kept.{SavesBound, Saved, bound_saved, entries_of}
use Rattle.trail.proofs.KeptLaws.{entry_at, length-entries}

saved_at : (ends : Ends) (before : List Lit) (ts : List Slot) (i : ℕ) (d : Slot) → Saved ends before ts → i < length ts → SavesBound ends (before ++ take i (lits_of (entries_of ts))) (get_or ts i d).entry.lit (get_or ts i d).saved
saved_at ends before [] i d h lt = absurd (omega arith)
saved_at ends before (t ∷ ts) zero d h lt = subst (λ (ls : List Lit). SavesBound ends ls t.entry.lit t.saved) (sym (append-nil before)) h.0
saved_at ends before (t ∷ ts) (suc i) d h lt =
    subst (λ (ls : List Lit). SavesBound ends ls (get_or ts i d).entry.lit (get_or ts i d).saved) (append_assoc before (t.entry.lit ∷ []) (take i (lits_of (entries_of ts))))
    (saved_at ends (before ++ t.entry.lit ∷ []) ts i d h.2 (omega arith))

saved-before : (ends : Ends) (before : List Lit) (l : Lit) (saved : ℤ) → SavesBound ends before l saved → bound_saved l saved ≡ bound_before ends before l
saved-before ends before (Atom n s) saved h = refl
saved-before ends before (Body n s) saved h = refl
saved-before ends before (Constraint n s) saved h = refl
saved-before ends before (AtMost x k) saved h = ap Some h
saved-before ends before (AtLeast x k) saved h = ap Some h

pub replaced-at : (t : Assignment) (s : Shape) (ts : List Slot) (i : ℕ) (slot : Slot) (r : Option ℤ) → s ≡ t.shape → entries_of ts ≡ t.entries → Saved s.ends [] ts → i < length t.entries → slot ≡ get_or ts i slot → r ≡ bound_saved slot.entry.lit slot.saved → (e : Entry) → slice_get t.entries i ≡ Some e → r ≡ bound_before t.shape.ends (take i (lits_of t.entries)) e.lit
replaced-at t s ts i slot r shape same h lt is kept e at =
    let within : i < length ts = omega (arith, lt, ap length same, length-entries ts) in
    let one : slice_get t.entries i ≡ Some (get_or ts i slot).entry = subst (λ (es : List Entry). slice_get es i ≡ Some (get_or ts i slot).entry) same (entry_at ts i slot within) in
    let here : (get_or ts i slot).entry ≡ e = some_same (sym one ∙ at) in
    kept
    ∙ ap (λ (x : Slot). bound_saved x.entry.lit x.saved) is
    ∙ saved-before s.ends (take i (lits_of (entries_of ts))) (get_or ts i slot).entry.lit (get_or ts i slot).saved (saved_at s.ends [] ts i slot h within)
    ∙ ap (λ (es : List Entry). bound_before s.ends (take i (lits_of es)) (get_or ts i slot).entry.lit) same
    ∙ ap (λ (u : Shape). bound_before u.ends (take i (lits_of t.entries)) (get_or ts i slot).entry.lit) shape
    ∙ ap (λ (x : Entry). bound_before t.shape.ends (take i (lits_of t.entries)) x.lit) here
  where
    some_same : {x y : Entry} → Some x ≡ Some y → x ≡ y
    some_same f = cc
