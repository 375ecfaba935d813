-- Looks for unfounded sets between two propagations.
use Rattle.std.proofs.Common.{inl, inr, ◌≡◌, ℕ, ◌+◌, ◌<◌, ◌≤◌, ◌||◌, Bool, true, false, cond, IsTrue, List, [], ◌∷◌, ◌++◌, length, get_or, slice_get, Option, None, Some, IfNone, IfSome, refl, sym, ◌∙◌, ap, subst, arith, zero, suc}
use Rattle.std.specs.List.{All, Contains}
use Rattle.std.proofs.lemmas.Bool.Decides.{nat_tests}
use Rattle.std.proofs.lemmas.List.{length-append}
use Rattle.std.proofs.lemmas.List.Elements.{All-from_recursion, All-contains}
use Rattle.std.proofs.lemmas.Option.{slice_get_within, get_or_from_slice_get}
use Rattle.literals.specs.declared.lit.Lit.{Lit}
use Rattle.literals.specs.declared.lit.Lit.TheVariants.{Atom}
use Rattle.literals.specs.Lits.{complement_of}
use Rattle.literals.specs.declared.reason.Reason.{Reason}
use Rattle.ground_model.specs.Answers.{IsNumbered}
use Rattle.trail.specs.declared.entry.Entry.{Entry}
use Rattle.trail.specs.declared.entry.Why.TheVariants.{Shown}
use Rattle.trail.specs.declared.entry.Placed.{Placed}
use Rattle.trail.specs.Assignment.{Assignment, Names, Places, is_true_on, truth_on, with_entry, entry_of}
use Rattle.trail.specs.Growth.{Grows}
use Rattle.trail.proofs.GrowthLaws.{grows_one, grows_on, grows_map, grows_length, grows_shape}
use Rattle.nogood_store.specs.Holding.{Held}
use Rattle.trail_worlds.specs.Calm.{IsCalm}
use Rattle.conflict_analysis.specs.declared.learned.Start.{Start}
use Rattle.conflict_analysis.specs.declared.learned.Start.TheVariants as start
use Rattle.propagator_core.specs.Meaning.{Meaning}
use Rattle.propagator_core.specs.Shown.{IsShown, IsConflict}
use Rattle.propagator_core.specs.Several.{some_valid}
use Rattle.propagator_core.specs.Quiet.{IsSteady}
use Rattle.propagator_core.proofs.SeveralLaws.{conflict_map}
use Rattle.unfounded_sets.specs.Dependence.{Dependence, Fits}
use Rattle.unfounded_sets.specs.Loops.{shows_loop, IsLoop, IsLoopFree, AreSupported}
use Rattle.unfounded_sets.specs.Laws.{HoldsSupports}
use Rattle.unfounded_sets.proofs.LawLemmas.{rest_law}
use Rattle.propagation.specs.declared.found.Found.{Found}
use Rattle.propagation.specs.declared.found.Found.TheVariants.{Calm, Conflict}
use Rattle.founded_propagation.specs.declared.founded.Closed.{Closed}
use Rattle.founded_propagation.specs.declared.founded.Closed.TheVariants.{Free, Grown, Stuck}
use Rattle.propagation.specs.Waking.{Rows, AreWakes, OthersRest}
use Rattle.propagation.specs.Causes.{IsCaused, IsMetBy, Finds}
use Rattle.founded_propagation.specs.Founding.{valid_with, IsCausedWith, IsMetWith, FindsFounded}
use Rattle.founded_propagation.specs.inner.Closing.{by_loop, AllKeep, Closes}
use Rattle.propagation.specs.inner.Hearing.{IsHeard, AreHeard}
use Rattle.propagation.proofs.RestLaws.{keeps_rest}
use Rattle.propagation.proofs.StepLaws.{placed_open}
use Rattle.propagation.proofs.WakeLaws.{heard_atom}

-- A LOOP'S REASON

got_last : (es : List Entry) (e : Entry) (k : ℕ) (f : Entry) → length es ≤ k → slice_get (es ++ e ∷ []) k ≡ Some f → f ≡ e
got_last [] e zero f le is = let one : Some e ≡ Some f = is in cc
got_last [] e (suc k) f le is = absurd (let no_more : None ≡ Some f = is in cc)
got_last (x ∷ xs) e zero f le is = absurd (omega (arith, le))
got_last (x ∷ xs) e (suc k) f le is = got_last xs e k f (omega (arith, le)) is

-- no propagator looks at an atom
heard_last : (t u : Assignment) (e : Entry) (ms : List Meaning) (places : List ℕ) (a : ℕ) → u ≡ with_entry t (record e { lit = Atom a false }) → AreHeard ms places u.entries (length t.entries) (length u.entries)
heard_last t u e ms places a now k f low high is =
    let last : f ≡ record e { lit = Atom a false } = got_last t.entries (record e { lit = Atom a false }) k f low (subst (λ (w : Assignment). slice_get w.entries k ≡ Some f) now is) in
    subst (λ (x : Entry). IsHeard ms places x.lit) (sym last) (heard_atom ms places a false)

-- where the first literal is not true, its opposite is set
pub opposite_set : (d : Dependence) (t u : Assignment) (r : Reason) (lits : List Lit) (none other : Lit) (placed : Placed) (test : Bool) → lits ≡ r.nogood → test ≡ is_true_on t (get_or lits 0 none) → test ≡ false → other ≡ complement_of (get_or lits 0 none)
    → Places t other (Shown r) placed u → IsLoop d t r → Grows (IsShown (by_loop d)) t u × (length t.entries < length u.entries) × AllKeep t u
opposite_set d t u r lits none other placed test same at untrue opposite p loop =
    let a = loop.atom in
    let first : get_or lits 0 none ≡ Atom a true = ap (λ ls. get_or ls 0 none) same ∙ get_or_from_slice_get r.nogood 0 (Atom a true) none loop.first in
    let off : is_true_on t (Atom a true) ≡ false = sym (ap (is_true_on t) first) ∙ sym at ∙ untrue in
    let member = All-contains (λ (b : ℕ). IsNumbered t.shape.atoms b × (is_true_on t (Atom b false) ≡ false)) loop.set a (All-from_recursion (λ (b : ℕ). IsNumbered t.shape.atoms b × (is_true_on t (Atom b false) ≡ false)) loop.set loop.open_or_true) loop.member in
    let out : is_true_on t (Atom a false) ≡ false = member.1 in
    let lit : other ≡ Atom a false = opposite ∙ ap complement_of first in
    let is_open : truth_on t (Atom a false) ≡ None = ap (λ b. cond b (Some true) (cond (is_true_on t (Atom a true)) (Some false) None)) out ∙ ap (λ b. cond b (Some false) None) off in
    let now : u ≡ with_entry t (entry_of t (Atom a false) (Shown r)) = placed_open t u (Atom a false) (Shown r) placed is_open (subst (λ l. Places t l (Shown r) placed u) lit p) in
    let names : Names t.shape (Atom a false) = record { literal = let above = member.0.above in omega (arith, above); within = member.0.known } in
    let there : Contains r.nogood (Atom a true) = (0, slice_get_within r.nogood 0 (Atom a true) loop.first, get_or_from_slice_get r.nogood 0 (Atom a true) (Atom a true) loop.first) in
    let shown : IsShown (by_loop d) t (entry_of t (Atom a false) (Shown r)) = record {
      reason = r;
      why = refl;
      is_valid = loop.shown;
      spelled = loop.spelled;
      forces = record { opposite = there; others = loop.others };
    } in
    let longer : length u.entries ≡ length t.entries + 1 = ap (λ (w : Assignment). length w.entries) now ∙ length-append t.entries (entry_of t (Atom a false) (Shown r) ∷ []) in
    let grown : Grows (IsShown (by_loop d)) t u =
    subst (Grows (IsShown (by_loop d)) t) (sym now) (grows_one (IsShown (by_loop d)) t (entry_of t (Atom a false) (Shown r)) (record { names = names; open_before = is_open; level = refl }) shown) in
    (grown, omega (arith, longer), λ rows ms places. keeps_rest (IsShown (by_loop d)) rows ms places places t u grown (λ i c. c) (λ wakes. heard_last t u (entry_of t (Atom a false) (Shown r)) ms places a now))

-- what was found
pub some_found : {X : Type 0} (P : X → Type 0) (found : Option X) (x : X) → found ≡ Some x → IfSome found P → P x
some_found P found x is h = subst (λ f. IfSome f P) is h

pub none_found : {X : Type 0} (Q : Type 0) (found : Option X) → found ≡ None → IfNone found Q → Q
none_found Q found is h = subst (λ f. IfNone f Q) is h

-- ENTRIES

or_left : (a b : Bool) → IsTrue a → IsTrue (a || b)
or_left a b h = grind (arith, nat_tests, h)

or_right : (a b : Bool) → IsTrue b → IsTrue (a || b)
or_right a b h = grind (arith, nat_tests, h)

caused_with : (held : List Held) (ms : List Meaning) (d : Dependence) (t : Assignment) (e : Entry) → IsCaused held ms t e → IsCausedWith held ms d t e
caused_with held ms d t e (inl f) = inl f
caused_with held ms d t e (inr h) = inr (record { reason = h.reason; why = h.why; is_valid = or_left (some_valid ms t.shape h.reason) (shows_loop d h.reason) h.is_valid; spelled = h.spelled; forces = h.forces })

looped_with : (held : List Held) (ms : List Meaning) (d : Dependence) (t : Assignment) (e : Entry) → IsShown (by_loop d) t e → IsCausedWith held ms d t e
looped_with held ms d t e h = inr (record { reason = h.reason; why = h.why; is_valid = or_right (some_valid ms t.shape h.reason) (shows_loop d h.reason) h.is_valid; spelled = h.spelled; forces = h.forces })

pub settled_grows : (held others : List Held) (ms ns : List Meaning) (d : Dependence) (a b c : Assignment) → Grows (IsCausedWith held ms d) a b → others ≡ held → ns ≡ ms → Grows (IsCaused others ns) b c → Grows (IsCausedWith held ms d) a c
settled_grows held others ms ns d a b c g same e h =
    grows_on (IsCausedWith held ms d) a b c g (grows_map (IsCaused held ms) (IsCausedWith held ms d) (caused_with held ms d) b c (subst (λ (hs : List Held). Grows (IsCaused hs ms) b c) same (subst (λ (qs : List Meaning). Grows (IsCaused others qs) b c) e h)))

pub looped_grows : (held : List Held) (ms : List Meaning) (d e : Dependence) (a b c : Assignment) → Grows (IsCausedWith held ms d) a b → e ≡ d → Grows (IsShown (by_loop e)) b c → Grows (IsCausedWith held ms d) a c
looped_grows held ms d e a b c g same h = grows_on (IsCausedWith held ms d) a b c g (grows_map (IsShown (by_loop d)) (IsCausedWith held ms d) (looped_with held ms d) b c (subst (λ (q : Dependence). Grows (IsShown (by_loop q)) b c) same h))

-- REQUIREMENTS

pub fits_on : (P : Assignment → Entry → Type 0) (d e : Dependence) (a b : Assignment) → Grows P a b → e ≡ d → Fits d a.shape → Fits e b.shape
fits_on P d e a b g same h = subst (λ (q : Dependence). Fits q b.shape) (sym same) (subst (Fits d) (sym (grows_shape P a b g)) h)

pub wakes_on : (rows : Rows) (ms ns : List Meaning) → ns ≡ ms → AreWakes rows ms → AreWakes rows ns
wakes_on rows ms ns e h = subst (AreWakes rows) (sym e) h

finds_as : (held : List Held) (ms : List Meaning) (t : Assignment) (places : List ℕ) (found last : Found) → found ≡ last → Finds held ms t places found → Finds held ms t places last
finds_as held ms t places found last is h = subst (Finds held ms t places) is h

pub supported_on : (P : Assignment → Entry → Type 0) (held others : List Held) (d e : Dependence) (ms : List Meaning) (a b : Assignment) (places : List ℕ) (found : Found) → Grows P a b → others ≡ held → e ≡ d → Fits d a.shape → HoldsSupports d held
    → found ≡ Calm → Finds others ms b places found → AreSupported e b
supported_on P held others d e ms a b places found g same own fits holds is finds =
    let calm : Finds others ms b places Calm = finds_as others ms b places found Calm is finds in
    rest_law e others b (fits_on P d e a b g own fits) (subst (λ (q : Dependence). HoldsSupports q others) (sym own) (subst (HoldsSupports d) (sym same) holds)) calm.0.nogoods

-- HOW IT ENDS

closes_as : (d : Dependence) (t u : Assignment) (closed last : Closed) → closed ≡ last → Closes d t u closed → Closes d t u last
closes_as d t u closed last is h = subst (Closes d t u) is h

met_with : (held : List Held) (ms : List Meaning) (d : Dependence) (t : Assignment) (from : Start) → IsMetBy held ms t from → IsMetWith held ms d t from
met_with held ms d t (start.Held id) h = h
met_with held ms d t (start.Shown r) h = conflict_map (some_valid ms) (valid_with ms d) (λ s q v. or_left (some_valid ms s q) (shows_loop d q) v) t r h

pub finds_met : (held others : List Held) (ms ns : List Meaning) (d : Dependence) (t : Assignment) (places : List ℕ) (found : Found) (from : Start) → others ≡ held → ns ≡ ms → found ≡ Conflict from → Finds others ns t places found → FindsFounded held ms d t places (Conflict from)
finds_met held others ms ns d t places found from same e is finds =
    met_with held ms d t from (subst (λ (hs : List Held). IsMetBy hs ms t from) same (subst (λ (qs : List Meaning). IsMetBy others qs t from) e (finds_as others ns t places found (Conflict from) is finds)))

pub finds_stuck : (held : List Held) (ms : List Meaning) (d e : Dependence) (t u : Assignment) (after : List ℕ) (closed : Closed) (r : Reason) → e ≡ d → closed ≡ Stuck r → Closes e t u closed → FindsFounded held ms d u after (Conflict (start.Shown r))
finds_stuck held ms d e t u after closed r same is closes =
    let met : IsConflict (by_loop e) u r = closes_as e t u closed (Stuck r) is closes in
    conflict_map (by_loop d) (valid_with ms d) (λ s q v. or_right (some_valid ms s q) (shows_loop d q) v) u r (subst (λ (q : Dependence). IsConflict (by_loop q) u r) same met)

pub finds_free : (held others : List Held) (ms ns : List Meaning) (d e : Dependence) (t u : Assignment) (places : List ℕ) (found : Found) (closed : Closed) → others ≡ held → ns ≡ ms → e ≡ d → found ≡ Calm → Finds others ns t places found
    → closed ≡ Free → Closes e t u closed → FindsFounded held ms d u places Calm
finds_free held others ms ns d e t u places found closed same mean own calm finds is closes =
    let free : Closes e t u Free = closes_as e t u closed Free is closes in
    let rest : Finds held ms t places Calm = subst (λ (hs : List Held). Finds hs ms t places Calm) same (subst (λ (qs : List Meaning). Finds others qs t places Calm) mean (finds_as others ns t places found Calm calm finds)) in
    (subst (λ (w : Assignment). IsCalm held ms w) (sym free.1) rest.0, subst (λ (q : Dependence). IsLoopFree q u) own free.0, rest.1)

-- all rest where nothing is left to say, and are woken as the trail grows
pub grown_others : (others : List Held) (ms ns : List Meaning) (d : Dependence) (rows : Rows) (t u : Assignment) (places : List ℕ) (found : Found) (closed : Closed) → ns ≡ ms → AreWakes rows ms → All IsSteady ms → found ≡ Calm → Finds others ns t places found
    → closed ≡ Grown → Closes d t u closed → OthersRest places ms u
grown_others others ms ns d rows t u places found closed mean wakes steady calm finds is closes =
    let grown : Closes d t u Grown = closes_as d t u closed Grown is closes in
    let rest : Finds others ms t places Calm = subst (λ (qs : List Meaning). Finds others qs t places Calm) mean (finds_as others ns t places found Calm calm finds) in
    grown.0 rows ms places wakes steady (λ i m at. inr (subst (λ (n : Meaning). IsTrue (n.rests t)) (get_or_from_slice_get ms i m m at) (rest.0.rest i m (slice_get_within ms i m at))))

pub grown_longer : (P : Assignment → Entry → Type 0) (d : Dependence) (a t u : Assignment) (closed : Closed) → Grows P a t → closed ≡ Grown → Closes d t u closed → length a.entries < length u.entries
grown_longer P d a t u closed g is closes =
    let grown : Closes d t u Grown = closes_as d t u closed Grown is closes in
    let n = grows_length P a t g in
    let longer = grown.1 in
    omega (arith, n, longer)
