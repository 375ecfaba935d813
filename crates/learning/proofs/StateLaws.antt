-- The state that held nogoods and notes are follows what lines leave.
use Rattle.std.proofs.Common.{◌≡◌, ℕ, suc, ◌+◌, ◌<◌, ◌≤◌, ◌==◌, ◌&&◌, ◌||◌, nat_lt, not, Bool, true, false, List, [], ◌∷◌, ◌++◌, length, map, refl, sym, ◌∙◌, ap, subst, arith}
use Rattle.std.specs.List.{AllByRecursion}
use Rattle.std.proofs.lemmas.Bool.Decides.{nat_tests}
use Rattle.std.proofs.lemmas.List.{map-append}
use Rattle.literals.specs.declared.lit.Lit.{Lit}
use Rattle.nogood_store.specs.Holding.{Held, AreBelow, numbered_from}
use Rattle.completion.specs.Inputs.{input_nogoods}
use Rattle.derivation_meaning.specs.State.{State, start, held_from}
use Rattle.derivation_meaning.specs.Lines.{answer_nogood}
use Rattle.derivation_meaning.specs.Valid.{with_nogood}
use Rattle.derivation_meaning.specs.Acceptance.{AreValid, after_all}
use Rattle.derivation_meaning.proofs.JoinLemmas.{join_law}
use Rattle.learning.specs.declared.known.Given.{Given}
use Rattle.learning.specs.Known.{Known, state_of, live_of, is_given, first_known}
use Rattle.learning.specs.Laws.{StartLaw, ReachLaw, GivenLaw}

-- valid lines on from a state that valid lines reach
pub reach_law : ReachLaw
reach_law program state lines r valid =
    let begin : State = start program in
    let joined = join_law program begin r.0 lines in
    (r.0 ++ lines, joined.valid.1 (r.1, subst (λ (s : State). AreValid program s lines) r.2 valid), ap (λ (s : State). after_all program s lines) r.2 ∙ sym joined.leads)

apart : (a b : ℕ) → a < b → (a == b) ≡ false
apart a b h = grind (arith, nat_tests, h)

own : (a : ℕ) → (a == a) ≡ true
own a = grind (arith, nat_tests)

not_given : (given : List Given) (low id : ℕ) → AllByRecursion (λ g. g.id < low) given → low ≤ id → is_given given id ≡ false
not_given [] low id a le = refl
not_given (g ∷ gs) low id a le = let first : (g.id == id) ≡ false = apart g.id id (let h = a.0 in omega (arith, h, le)) in rw first (not_given gs low id a.1 le)

-- the state after a learned nogood is that in which it is held
pub learned_state : (held : List Held) (known : Known) (nogood : List Lit) (id : ℕ) → known.inputs < id → known.next ≤ id → AllByRecursion (λ g. g.id < known.next) known.given
    → with_nogood (record (state_of held known) { next = id }) nogood true true ≡ state_of (held ++ record { id = id; nogood = nogood } ∷ []) (record known { next = id + 1 })
learned_state held known nogood id above next given =
    let fresh : is_given known.given id ≡ false = not_given known.given known.next id given next in
    let later : nat_lt known.inputs id ≡ true = grind (arith, nat_tests, above) in
    let is : true ≡ nat_lt known.inputs id && not (is_given known.given id) = rw later (rw fresh refl) in
    ap (λ live. record (state_of held known) { next = id + 1; live = live })
    (ap (λ b. map (live_of known) held ++ record { id = id; nogood = nogood; is_held = true; is_learned = b } ∷ []) is
    ∙ sym (map-append (live_of known) held (record { id = id; nogood = nogood } ∷ [])))

given_push : (given : List Given) (g : Given) (id : ℕ) → (g.id == id) ≡ false → is_given (given ++ g ∷ []) id ≡ is_given given id
given_push [] g id e = rw e refl
given_push (x ∷ xs) g id e = ap (λ b. (x.id == id) || b) (given_push xs g id e)

given_last : (given : List Given) (g : Given) → is_given (given ++ g ∷ []) g.id ≡ true
given_last [] g = rw (own g.id) refl
given_last (x ∷ xs) g = by_first (x.id == g.id) (given_last xs g)
  where
    by_first : (b : Bool) → is_given (xs ++ g ∷ []) g.id ≡ true → (b || is_given (xs ++ g ∷ []) g.id) ≡ true
    by_first true h = refl
    by_first false h = h

live_same : (known : Known) (g : Given) (held : List Held) → AreBelow g.id held → map (live_of known) held ≡ map (live_of (record known { next = g.id + 1; given = known.given ++ g ∷ [] })) held
live_same known g [] below = refl
live_same known g (h ∷ hs) below =
    let other : (g.id == h.id) ≡ false = grind (arith, nat_tests, below.0) in
    ap (λ b. record { id = h.id; nogood = h.nogood; is_held = true; is_learned = nat_lt known.inputs h.id && not b } ∷ map (live_of known) hs) (sym (given_push known.given g h.id other))
    ∙ ap (λ es. live_of (record known { next = g.id + 1; given = known.given ++ g ∷ [] }) h ∷ es) (live_same known g hs below.1)

off : (b : Bool) → (b && false) ≡ false
off true = refl
off false = refl

-- after an answer
pub given_law : GivenLaw
given_law program known held answer below =
    let g : Given = record { id = known.next; answer = answer } in
    let h : Held = record { id = known.next; nogood = answer_nogood program answer } in
    let now : Known = record known { next = known.next + 1; given = known.given ++ g ∷ [] } in
    let is : false ≡ nat_lt known.inputs known.next && not (is_given (known.given ++ g ∷ []) known.next) = rw (given_last known.given g) (sym (off (nat_lt known.inputs known.next))) in
    let lives : map (live_of known) held ++ record { id = known.next; nogood = answer_nogood program answer; is_held = true; is_learned = false } ∷ [] ≡ map (live_of now) (held ++ h ∷ []) =
    ap (λ es. es ++ record { id = known.next; nogood = answer_nogood program answer; is_held = true; is_learned = false } ∷ []) (live_same known g held below)
    ∙ ap (λ b. map (live_of now) held ++ record { id = known.next; nogood = answer_nogood program answer; is_held = true; is_learned = b } ∷ []) is
    ∙ sym (map-append (live_of now) held (h ∷ [])) in
    ap (λ live. record (state_of held now) { live = live; answers = map (λ x. x.answer) known.given ++ answer ∷ [] }) lives
    ∙ ap (λ given. record (state_of (held ++ h ∷ []) now) { answers = given }) (sym (map-append (λ x. x.answer) known.given (g ∷ [])))

-- BEFORE THE FIRST LINE

live_from : (known : Known) (n : ℕ) (ns : List (List Lit)) → n + length ns ≤ known.inputs + 1 → map (live_of known) (numbered_from n ns) ≡ held_from n ns
live_from known n [] le = refl
live_from known n (x ∷ xs) le =
    let first : nat_lt known.inputs n ≡ false = grind (arith, nat_tests, le) in
    let next : suc n ≡ n + 1 = omega arith in
    ap (λ b. record { id = n; nogood = x; is_held = true; is_learned = b && not (is_given known.given n) } ∷ map (live_of known) (numbered_from (suc n) xs)) first
    ∙ ap (λ es. record { id = n; nogood = x; is_held = true; is_learned = false } ∷ es) (live_from known (suc n) xs (omega (arith, le)) ∙ ap (λ k. held_from k xs) next)

pub start_law : StartLaw
start_law program = ap (λ live. record (start program) { live = live }) (live_from (first_known program) 1 (input_nogoods program) (omega arith))
