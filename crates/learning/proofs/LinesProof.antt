-- The lines that tell what was learned are valid, one after another.
use Rattle.std.proofs.Common.{◌≡◌, ◌<◌, ◌≤◌, ◌+◌, ◌==◌, ℕ, zero, suc, Bool, true, false, cond, ℤ, List, [], ◌∷◌, ◌++◌, map, take, length, Option, None, Some, refl, sym, ◌∙◌, ap, subst, arith, append_assoc, append-nil}
use Rattle.std.proofs.lemmas.Bool.Decides.{nat_tests}
use Rattle.std.specs.List.{AllByRecursion, fold, find, filter}
use Rattle.literals.specs.declared.lit.Lit.{Lit}
use Rattle.literals.specs.declared.reason.Step.{Step}
use Rattle.literals.specs.declared.reason.Step.TheVariants as s
use Rattle.literals.specs.declared.reason.Reason.{Reason}
use Rattle.ground_model.specs.declared.program.GroundProgram.{GroundProgram}
use Rattle.nogood_store.specs.Holding.{Held, AreBelow, nogood_under}
use Rattle.conflict_analysis.specs.declared.learned.Start.{Start}
use Rattle.conflict_analysis.specs.declared.learned.Start.TheVariants as from
use Rattle.conflict_analysis.specs.declared.learned.Link.{Link}
use Rattle.literals.specs.Nogoods.{resolved_with}
use Rattle.conflict_analysis.specs.Chains.{nogood_of, resolved_at, linked}
use Rattle.derivation.specs.declared.line.Line.{Line}
use Rattle.derivation.specs.declared.line.Line.TheVariants as l
use Rattle.derivation_meaning.specs.State.{Entry, State, last_cost, live_nogood, nogood_in}
use Rattle.derivation_meaning.specs.Lines.{reason_of, chained}
use Rattle.derivation_meaning.specs.Valid.{IsValid, IsValidAs, after, after_as, with_nogood}
use Rattle.derivation_meaning.specs.Acceptance.{AreValid, after_all}
use Rattle.derivation_meaning.proofs.JoinLemmas.{join_law}
use Rattle.learning.specs.Known.{Known, state_of, live_of}
use Rattle.learning.specs.Told.{line_by, line_of, IsTellable, IsTellableStart}
use Rattle.learning.specs.Chain.{uses_of, shown_lines, id_for, next_for, links_from}
use Rattle.learning.specs.Laws.{LinesLaw, FrontLaw}

-- REASONS

by_step : (by : Step) (lits : List Lit) → reason_of (line_by by lits) ≡ Some (record { step = by; lits = lits })
by_step (s.Sum c) lits = refl
by_step (s.Distinct c a b) lits = refl
by_step (s.Window c a b) lits = refl
by_step (s.Pair c i j) lits = refl
by_step (s.Loop atoms) lits = refl
by_step (s.Hole c) lits = refl

after_told : (program : GroundProgram) (state : State) (r : Reason) → after program state (line_of r) ≡ with_nogood state r.nogood false false
after_told program state r = ap (λ o. after_as program state o (line_of r)) (by_step r.step r.nogood)

told_valid : (program : GroundProgram) (state : State) (r : Reason) → state.claim ≡ None → IsTellable program (last_cost state) r → IsValid program state (line_of r)
told_valid program state r unclaimed t = record {
  unclaimed = unclaimed;
  valid = subst (λ o. IsValidAs program state o (line_of r)) (sym (by_step r.step r.nogood)) t;
}

-- THE NOGOODS THAT ARE TOLD

abbrev pub told_live : ℕ → List Start → List Entry
told_live next [] = []
told_live next (from.Held id ∷ rest) = told_live next rest
told_live next (from.Shown r ∷ rest) = record { id = next; nogood = r.nogood; is_held = false; is_learned = false } ∷ told_live (next + 1) rest

abbrev with_told : State → List Start → State
with_told state starts = record state { next = state.next + length (shown_lines starts); live = state.live ++ told_live state.next starts }

abbrev AllTold : GroundProgram → Option ℤ → List Start → Type 0
AllTold program cost starts = AllByRecursion (IsTellableStart program cost) starts

shown_valid : (program : GroundProgram) (state : State) (starts : List Start) → state.claim ≡ None → AllTold program (last_cost state) starts
    → AreValid program state (shown_lines starts) × (after_all program state (shown_lines starts) ≡ with_told state starts)
shown_valid program state [] u a =
    let count : state.next + 0 ≡ state.next = omega arith in
    (tt, sym (ap (λ n. record state { next = n; live = state.live ++ [] }) count ∙ ap (λ live. record state { next = state.next; live = live }) (append-nil state.live)))
shown_valid program state (from.Held id ∷ rest) u a = shown_valid program state rest u a.1
shown_valid program state (from.Shown r ∷ rest) u a =
    let next : State = with_nogood state r.nogood false false in
    let is : after program state (line_of r) ≡ next = after_told program state r in
    let more : AreValid program next (shown_lines rest) × (after_all program next (shown_lines rest) ≡ with_told next rest) = shown_valid program next rest u a.1 in
    let count : (state.next + 1) + length (shown_lines rest) ≡ state.next + suc (length (shown_lines rest)) = omega arith in
    let e : Entry = record { id = state.next; nogood = r.nogood; is_held = false; is_learned = false } in
    let lives : (state.live ++ e ∷ []) ++ told_live (state.next + 1) rest ≡ state.live ++ e ∷ told_live (state.next + 1) rest = append_assoc state.live (e ∷ []) (told_live (state.next + 1) rest) in (
      (told_valid program state r u a.0, subst (λ st. AreValid program st (shown_lines rest)) (sym is) more.0),
      ap (λ st. after_all program st (shown_lines rest)) is ∙ more.1
          ∙ ap (λ n. record state { next = n; live = (state.live ++ e ∷ []) ++ told_live (state.next + 1) rest }) count
          ∙ ap (λ live. record state { next = state.next + suc (length (shown_lines rest)); live = live }) lives,
    )

-- FINDING THEM

abbrev IdsBelow : ℕ → List Entry → Type 0
IdsBelow n es = AllByRecursion (λ e. e.id < n) es

find_none : (n : ℕ) (es more : List Entry) → IdsBelow n es → find (λ e. e.id == n) (es ++ more) ≡ find (λ e. e.id == n) more
find_none n [] more b = refl
find_none n (e ∷ es) more b = cases (e.id == n) refl (find_none n es more b.1)
  where
    cases : (t : Bool) → (e.id == n) ≡ t → find (λ x. x.id == n) (es ++ more) ≡ find (λ x. x.id == n) more → find (λ x. x.id == n) (e ∷ (es ++ more)) ≡ find (λ x. x.id == n) more
    cases true h rest = absurd (grind (arith, nat_tests, h, b.0))
    cases false h rest = rw h rest

find_held : (known : Known) (held : List Held) (more : List Entry) (id : ℕ) (n : List Lit) → nogood_under held id ≡ Some n
    → nogood_in (find (λ e. e.id == id) (map (live_of known) held ++ more)) ≡ Some n
find_held known [] more id n h = absurd (cc)
find_held known (x ∷ xs) more id n h = cases (x.id == id) refl h (find_held known xs more id n)
  where
    cases : (t : Bool) → (x.id == id) ≡ t → cond (x.id == id) (Some x.nogood) (nogood_under xs id) ≡ Some n → (nogood_under xs id ≡ Some n → nogood_in (find (λ e. e.id == id) (map (live_of known) xs ++ more)) ≡ Some n)
        → nogood_in (find (λ e. e.id == id) (live_of known x ∷ (map (live_of known) xs ++ more))) ≡ Some n
    cases true e f rest = rw e (subst (λ t. cond t (Some x.nogood) (nogood_under xs id) ≡ Some n) e f)
    cases false e f rest = rw e (rest (subst (λ t. cond t (Some x.nogood) (nogood_under xs id) ≡ Some n) e f))

below_more : (n m : ℕ) (es : List Entry) → n ≤ m → IdsBelow n es → IdsBelow m es
below_more n m [] h b = tt
below_more n m (e ∷ es) h b = (omega (arith, h, b.0), below_more n m es h b.1)

below_push : (n : ℕ) (es : List Entry) (e : Entry) → IdsBelow n es → e.id < n → IdsBelow n (es ++ e ∷ [])
below_push n [] e b h = (h, tt)
below_push n (x ∷ xs) e b h = (b.0, below_push n xs e b.1 h)

held_below : (known : Known) (held : List Held) (n : ℕ) → AreBelow n held → IdsBelow n (map (live_of known) held)
held_below known [] n b = tt
held_below known (h ∷ hs) n b = (b.0, held_below known hs n b.1)

-- the nogood of a start is the live one under the id by which the line names it
named_by : (known : Known) (held : List Held) (extra : List Entry) (next : ℕ) (u : Start) (us : List Start) (n : List Lit)
    → IdsBelow next (map (live_of known) held ++ extra) → nogood_of held u ≡ Some n
    → nogood_in (find (λ e. e.id == id_for next u) ((map (live_of known) held ++ extra) ++ told_live next (u ∷ us))) ≡ Some n
named_by known held extra next (from.Held id) us n b h =
    subst (λ es. nogood_in (find (λ e. e.id == id) es) ≡ Some n) (sym (append_assoc (map (live_of known) held) extra (told_live next us)))
    (find_held known held (extra ++ told_live next us) id n h)
named_by known held extra next (from.Shown r) us n b h =
    ap nogood_in (find_none next (map (live_of known) held ++ extra) (record { id = next; nogood = r.nogood; is_held = false; is_learned = false } ∷ told_live (next + 1) us) b)
    ∙ (let same : (next == next) ≡ true = grind (arith, nat_tests) in rw same h)

-- CHAINS

fold_none : (held : List Held) (ks : List Link) (last : List Lit) → fold (linked held) None ks ≡ Some last → ⊥
fold_none held [] last h = absurd (cc)
fold_none held (k ∷ ks) last h = fold_none held ks last h

-- one start further: what is live falls in two
record Further (state : State) (known : Known) (held : List Held) (next : ℕ) (us : List Start) : Type 0 where
  pub extra : List Entry
  pub is : state.live ≡ (map (live_of known) held ++ extra) ++ told_live next us
  pub below : IdsBelow next (map (live_of known) held ++ extra)

further : (state : State) (known : Known) (held : List Held) (next : ℕ) (u : Start) (us : List Start) → Further state known held next (u ∷ us) → Further state known held (next_for next u) us
further state known held next (from.Held id) us f = record { extra = f.extra; is = f.is; below = f.below }
further state known held next (from.Shown r) us f =
    let e : Entry = record { id = next; nogood = r.nogood; is_held = false; is_learned = false } in
    let base : List Entry = map (live_of known) held in
    let joined : (base ++ f.extra) ++ e ∷ [] ≡ base ++ (f.extra ++ e ∷ []) = append_assoc base f.extra (e ∷ []) in
    record {
      extra = f.extra ++ e ∷ [];
      is = f.is ∙ sym (append_assoc (base ++ f.extra) (e ∷ []) (told_live (next + 1) us)) ∙ ap (λ es. es ++ told_live (next + 1) us) joined;
      below = subst (IdsBelow (next + 1)) joined (below_push (next + 1) (base ++ f.extra) e (below_more next (next + 1) (base ++ f.extra) (omega arith) f.below) (omega arith));
    }

live_is : (state : State) (known : Known) (held : List Held) (next : ℕ) (u : Start) (us : List Start) (n : List Lit) → Further state known held next (u ∷ us) → nogood_of held u ≡ Some n → live_nogood state (id_for next u) ≡ Some n
live_is state known held next u us n f h =
    ap (λ es. nogood_in (find (λ e. e.id == id_for next u) es)) f.is ∙ named_by known held f.extra next u us n f.below h

chain_told : (state : State) (known : Known) (held : List Held) (next : ℕ) (ks : List Link) (so_far : Option (List Lit)) (last : List Lit)
    → Further state known held next (map (λ k. k.used) ks) → fold (linked held) so_far ks ≡ Some last → chained state so_far (links_from next ks) ≡ Some last
chain_told state known held next [] so_far last f h = h
chain_told state known held next (k ∷ ks) None last f h = absurd (fold_none held ks last h)
chain_told state known held next (k ∷ ks) (Some left) last f h =
    by_used (nogood_of held k.used) refl h
    (λ so_far g. chain_told state known held (next_for next k.used) ks so_far last (further state known held next k.used (map (λ j. j.used) ks) f) g)
  where
    by_used : (o : Option (List Lit)) → nogood_of held k.used ≡ o → fold (linked held) (resolved_at left k.pivot o) ks ≡ Some last
        → ((so_far : Option (List Lit)) → fold (linked held) so_far ks ≡ Some last → chained state so_far (links_from (next_for next k.used) ks) ≡ Some last)
        → chained state (resolved_with (Some left) k.pivot (live_nogood state (id_for next k.used))) (links_from (next_for next k.used) ks) ≡ Some last
    by_used None e g rest = absurd (fold_none held ks last g)
    by_used (Some right) e g rest =
        subst (λ o. chained state (resolved_with (Some left) k.pivot o) (links_from (next_for next k.used) ks) ≡ Some last)
        (sym (live_is state known held next k.used (map (λ j. j.used) ks) right f e)) (rest _ g)

started : (state : State) (known : Known) (held : List Held) (next : ℕ) (first : Start) (ks : List Link) (last : List Lit)
    → Further state known held next (first ∷ map (λ k. k.used) ks) → (o : Option (List Lit)) → nogood_of held first ≡ o → fold (linked held) o ks ≡ Some last
    → chained state (live_nogood state (id_for next first)) (links_from (next_for next first) ks) ≡ Some last
started state known held next first ks last f None e h = absurd (fold_none held ks last h)
started state known held next first ks last f (Some n) e h =
    subst (λ o. chained state o (links_from (next_for next first) ks) ≡ Some last) (sym (live_is state known held next first (map (λ k. k.used) ks) n f e))
    (chain_told state known held (next_for next first) ks (Some n) last (further state known held next first (map (λ k. k.used) ks) f) h)

-- ALL LINES

valid_append : (program : GroundProgram) (state : State) (xs ys : List Line) → AreValid program state xs → AreValid program (after_all program state xs) ys → AreValid program state (xs ++ ys)
valid_append program state xs ys a b = (join_law program state xs ys).valid.1 (a, b)

told_go : (next : ℕ) (us : List Start) → filter (λ e. e.is_held) (told_live next us) ≡ []
told_go next [] = refl
told_go next (from.Held id ∷ us) = told_go next us
told_go next (from.Shown r ∷ us) = told_go (next + 1) us

held_stay : (known : Known) (held : List Held) (more : List Entry) → filter (λ e. e.is_held) (map (live_of known) held ++ more) ≡ map (live_of known) held ++ filter (λ e. e.is_held) more
held_stay known [] more = refl
held_stay known (h ∷ hs) more = ap (λ es. live_of known h ∷ es) (held_stay known hs more)

pub lines_proved : LinesLaw
lines_proved program known held first chain nogood unclaimed below told replays =
    let S : State = state_of held known in
    let us : List Start = uses_of first chain in
    let T : State = with_told S us in
    let shown : AreValid program S (shown_lines us) × (after_all program S (shown_lines us) ≡ T) = shown_valid program S us unclaimed told in
    let base : map (live_of known) held ++ [] ≡ map (live_of known) held = append-nil (map (live_of known) held) in
    let f : Further T known held known.next us = record {
      extra = [];
      is = ap (λ es. es ++ told_live known.next us) (sym base);
      below = subst (IdsBelow known.next) (sym base) (held_below known held known.next below);
    } in
    let line : Line = l.Learned (id_for known.next first) (links_from (next_for known.next first) chain) nogood in
    let learned : IsValid program T line = record { unclaimed = unclaimed; valid = started T known held known.next first chain nogood f (nogood_of held first) refl replays } in
    let last : AreValid program (after_all program S (shown_lines us)) (line ∷ []) = subst (λ st. AreValid program st (line ∷ [])) (sym shown.1) (learned, tt) in
    let gone : filter (λ e. e.is_held) T.live ≡ map (live_of known) held = held_stay known held (told_live known.next us) ∙ ap (λ es. map (live_of known) held ++ es) (told_go known.next us) ∙ base in (
      valid_append program S (shown_lines us) (line ∷ []) shown.0 last,
      (join_law program S (shown_lines us) (line ∷ [])).leads ∙ ap (λ st. after_all program st (line ∷ [])) shown.1
          ∙ ap (λ es. with_nogood (record T { live = es }) nogood true true) gone,
    )

-- A FRONT

front_told : (program : GroundProgram) (state : State) (starts : List Start) (count : ℕ) → state.claim ≡ None → AllTold program (last_cost state) starts → count ≤ length (shown_lines starts)
    → AreValid program state (take count (shown_lines starts)) × ((after_all program state (take count (shown_lines starts))).next ≡ state.next + count)
front_told program state starts zero u a le = (tt, omega arith)
front_told program state [] (suc n) u a le = absurd (omega arith)
front_told program state (from.Held id ∷ rest) (suc n) u a le = front_told program state rest (suc n) u a.1 le
front_told program state (from.Shown r ∷ rest) (suc n) u a le =
    let next : State = with_nogood state r.nogood false false in
    let is : after program state (line_of r) ≡ next = after_told program state r in
    let more : AreValid program next (take n (shown_lines rest)) × ((after_all program next (take n (shown_lines rest))).next ≡ next.next + n) = front_told program next rest n u a.1 (omega arith) in
    let count : (state.next + 1) + n ≡ state.next + suc n = omega arith in (
      (told_valid program state r u a.0, subst (λ st. AreValid program st (take n (shown_lines rest))) (sym is) more.0),
      ap (λ st. (after_all program st (take n (shown_lines rest))).next) is ∙ more.1 ∙ count,
    )

pub front_proved : FrontLaw
front_proved program known held starts count u a le = front_told program (state_of held known) starts count u a le
