-- Laws of names, places and the least place.
use Rattle.std.proofs.Common.{◌≡◌, ℕ, ◌+◌, ◌-◌, ◌<◌, ◌==◌, nat_lt, Bool, true, false, if◌then◌else◌, bytes_eq, List, [], ◌∷◌, ◌++◌, length, map, take, drop, Option, Some, None, refl, sym, ◌∙◌, ap, append_assoc, arith}
use Rattle.std.specs.Result.{IfOk}
use Rattle.std.proofs.Common.{Result, Ok, Err}
use Rattle.std.proofs.lemmas.List.{append-nil, length-drop, length-map, length-append, drop-drop}
use Rattle.std.proofs.lemmas.Bool.{eqb-true, eq-eqb, ne_eqb, ltb-true, ltb-false, lt-ltb, le-ltb}
use Rattle.lexer.specs.declared.token.Token.{Token}
use Rattle.syntax_tree.specs.declared.rule.Name.{Name}
use Rattle.grammar.specs.declared.shape.Shape.{Shape}
use Rattle.grammar.specs.declared.shape.Shape.TheVariants.{Atom, Interval, Other}
use Rattle.grammar.specs.Word.{words_of, words_at, word_of}
use Rattle.lexer.specs.Tokens.{token_bytes}
use Rattle.grammar.specs.Tree.{number_of, number_behind}
use Rattle.grammar.specs.Sight.{Sight, Sighting, of_variable, of_anonymous, of_interval, of_atom, argument_by, refused_by}
use Rattle.theory_grammar.specs.State.{lesser, least, refused, argued, start_of, with_name, with_sight, named, Extends, noted, adds, seen_places}
use Rattle.theory_grammar.specs.Kept.{places_of}
use Rattle.theory_grammar.specs.declared.places.Place.{Place}

-- ---- names
pub named_append : (names : List Name) (a b : List Sighting) → named names (a ++ b) ≡ named (named names a) b
named_append names [] b = refl
named_append names (s ∷ a) b = named_append (with_sight names s.sight) a b

pub extends_more : (a b c : List Name) → Extends a b → Extends b c → Extends a c
extends_more a b c h g = (h.0 ++ g.0, g.1 ∙ ap (λ z. z ++ g.0) h.1 ∙ append_assoc a h.0 g.0)

with_name_extends : (names : List Name) (name : List ℕ) (b : Bool) → Extends names (if b then names ++ record { text = name } ∷ [] else names)
with_name_extends names name true = (record { text = name } ∷ [], refl)
with_name_extends names name false = ([], sym (append-nil names))

with_sight_extends : (names : List Name) (s : Sight) → Extends names (with_sight names s)
with_sight_extends names (of_variable name) = with_name_extends names name (number_of names name == 0)
with_sight_extends names of_anonymous = ([], sym (append-nil names))
with_sight_extends names of_interval = ([], sym (append-nil names))
with_sight_extends names of_atom = ([], sym (append-nil names))

pub named_extends : (names : List Name) (sights : List Sighting) → Extends names (named names sights)
named_extends names [] = ([], sym (append-nil names))
named_extends names (s ∷ sights) = extends_more names (with_sight names s.sight) (named (with_sight names s.sight) sights) (with_sight_extends names s.sight) (named_extends (with_sight names s.sight) sights)

-- a name that is there keeps its number
behind_more : (k : ℕ) (names more : List Name) (name : List ℕ) → (number_behind k names name == 0) ≡ false → number_behind k (names ++ more) name ≡ number_behind k names name
behind_more k [] more name h = absurd cc
behind_more k (other ∷ names) more name h = by (bytes_eq other.text name) h (λ g. behind_more (k + 1) names more name g)
  where
    by : (b : Bool) → ((if b then k + 1 else number_behind (k + 1) names name) == 0) ≡ false
        → ((number_behind (k + 1) names name == 0) ≡ false → number_behind (k + 1) (names ++ more) name ≡ number_behind (k + 1) names name)
        → (if b then k + 1 else number_behind (k + 1) (names ++ more) name) ≡ (if b then k + 1 else number_behind (k + 1) names name)
    by true h next = refl
    by false h next = next h

pub number_stays : (names later : List Name) (name : List ℕ) → (number_of names name == 0) ≡ false → Extends names later → number_of later name ≡ number_of names name
number_stays names later name h e = ap (λ z. number_of z name) e.1 ∙ behind_more 0 names e.0 name h

same_bytes : (bytes : List ℕ) → bytes_eq bytes bytes ≡ true
same_bytes [] = refl
same_bytes (b ∷ bytes) = let e = eq-eqb b b refl in let r = same_bytes bytes in rw (e, r) refl

-- a name that is added has the next number
pub number_last : (k : ℕ) (names : List Name) (name : List ℕ) → number_behind k names name ≡ 0 → number_behind k (names ++ record { text = name } ∷ []) name ≡ k + length names + 1
number_last k [] name h = by (bytes_eq name name) (same_bytes name)
  where
    by : (b : Bool) → b ≡ true → (if b then k + 1 else 0) ≡ k + 0 + 1
    by true q = omega arith
    by false q = absurd cc
number_last k (other ∷ names) name h = by (bytes_eq other.text name) h (λ g. number_last (k + 1) names name g)
  where
    by : (b : Bool) → (if b then k + 1 else number_behind (k + 1) names name) ≡ 0
        → (number_behind (k + 1) names name ≡ 0 → number_behind (k + 1) (names ++ record { text = name } ∷ []) name ≡ k + 1 + length names + 1)
        → (if b then k + 1 else number_behind (k + 1) (names ++ record { text = name } ∷ []) name) ≡ k + length (other ∷ names) + 1
    by true q next = absurd (omega (arith, q))
    by false q next = let e = next q in omega (arith, e)

pub not_zero : (n : ℕ) → 0 < n → (n == 0) ≡ false
not_zero n h = ne_eqb n 0 (λ e. omega (arith, h, e))

-- ---- places
seen_append : (tokens : List Token) (names : List Name) (a b : List Sighting) → seen_places tokens names (a ++ b) ≡ seen_places tokens names a ++ seen_places tokens (named names a) b
seen_append tokens names [] b = refl
seen_append tokens names (s ∷ a) b = ap (λ z. noted tokens s.at (adds names s.sight) ∷ z) (seen_append tokens (with_sight names s.sight) a b)

-- places that are seen, and others behind them
pub places_join : (tokens : List Token) (old mid : List Name) (first middle last : List Place) (one two : List Sighting) → mid ≡ named old one → middle ≡ first ++ seen_places tokens old one
    → last ≡ middle ++ seen_places tokens mid two → last ≡ first ++ seen_places tokens old (one ++ two)
places_join tokens old mid first middle last one two names a b =
    b ∙ ap (λ z. z ++ seen_places tokens mid two) a ∙ append_assoc first (seen_places tokens old one) (seen_places tokens mid two)
    ∙ ap (λ z. first ++ (seen_places tokens old one ++ seen_places tokens z two)) names ∙ ap (λ z. first ++ z) (sym (seen_append tokens old one two))

pub starts_seen : (tokens : List Token) (names : List Name) (sights : List Sighting) → map (λ p. p.start) (seen_places tokens names sights) ≡ places_of tokens sights
starts_seen tokens names [] = refl
starts_seen tokens names (s ∷ sights) = ap (λ z. start_of tokens s.at ∷ z) (starts_seen tokens (with_sight names s.sight) sights)

-- a name that is new makes names longer
pub longer : (names : List Name) (name : List ℕ) → nat_lt (length names) (length (with_name names name)) ≡ (number_of names name == 0)
longer names name = by (number_of names name == 0)
  where
    by : (b : Bool) → nat_lt (length names) (length (if b then names ++ record { text = name } ∷ [] else names)) ≡ b
    by true = let e = length-append names (record { text = name } ∷ []) in lt-ltb (length names) (length (names ++ record { text = name } ∷ [])) (omega (arith, e))
    by false = le-ltb (length names) (length names) (omega arith)

take_all : {X : Type 0} (xs ys : List X) → take (length xs) (xs ++ ys) ≡ xs
take_all [] ys = refl
take_all (x ∷ xs) ys = ap (λ z. x ∷ z) (take_all xs ys)

drop_all_of : {X : Type 0} (xs ys : List X) → drop (length xs) (xs ++ ys) ≡ ys
drop_all_of [] ys = refl
drop_all_of (x ∷ xs) ys = drop_all_of xs ys

pub argued_places : (tokens : List Token) (names : List Name) (old : List Place) (sights : List Sighting) (shape : Shape) (at : ℕ)
    → argued (old ++ seen_places tokens names sights) shape (length old) (noted tokens at true) ≡ old ++ seen_places tokens names (argument_by shape at ++ sights)
argued_places tokens names old sights Interval at =
    ap (λ z. z ++ noted tokens at true ∷ drop (length old) (old ++ seen_places tokens names sights)) (take_all old (seen_places tokens names sights))
    ∙ ap (λ z. old ++ noted tokens at true ∷ z) (drop_all_of old (seen_places tokens names sights))
argued_places tokens names old sights Atom at = refl
argued_places tokens names old sights Other at = refl

pub argued_names : (names : List Name) (sights : List Sighting) (shape : Shape) (at : ℕ) → named names (argument_by shape at ++ sights) ≡ named names sights
argued_names names sights Interval at = refl
argued_names names sights Atom at = refl
argued_names names sights Other at = refl

-- ---- the least place
pub least_append : (bad : Option ℕ) (a b : List ℕ) → least bad (a ++ b) ≡ least (least bad a) b
least_append bad [] b = refl
least_append bad (x ∷ a) b = least_append (lesser bad x) a b

lower_same : (x y : ℕ) → lesser (Some x) y ≡ lesser (Some y) x
lower_same x y = by (nat_lt y x) refl (nat_lt x y) refl
  where
    by : (p : Bool) → nat_lt y x ≡ p → (q : Bool) → nat_lt x y ≡ q → (if p then Some y else Some x) ≡ (if q then Some x else Some y)
    by true p true q = absurd (omega (arith, ltb-true y x p, ltb-true x y q))
    by true p false q = refl
    by false p true q = refl
    by false p false q = ap Some (omega (arith, ltb-false y x p, ltb-false x y q))

lesser_swap : (bad : Option ℕ) (x y : ℕ) → lesser (lesser bad x) y ≡ lesser (lesser bad y) x
lesser_swap None x y = lower_same x y
lesser_swap (Some b) x y = by (nat_lt x b) refl (nat_lt y b) refl
  where
    by : (p : Bool) → nat_lt x b ≡ p → (q : Bool) → nat_lt y b ≡ q → lesser (if p then Some x else Some b) y ≡ lesser (if q then Some y else Some b) x
    by true p true q = lower_same x y
    by true p false q = let e : nat_lt y x ≡ false = le-ltb y x (omega (arith, ltb-true x b p, ltb-false y b q)) in rw (e, p) refl
    by false p true q = let e : nat_lt x y ≡ false = le-ltb x y (omega (arith, ltb-false x b p, ltb-true y b q)) in rw (e, q) refl
    by false p false q = rw (p, q) refl

least_last : (bad : Option ℕ) (xs : List ℕ) (at : ℕ) → lesser (least bad xs) at ≡ least (lesser bad at) xs
least_last bad [] at = refl
least_last bad (x ∷ xs) at = least_last (lesser bad x) xs at ∙ ap (λ z. least z xs) (lesser_swap bad x at)

pub refused_least : (bad : Option ℕ) (xs : List ℕ) (shape : Shape) (at : ℕ) → refused (least bad xs) shape at ≡ least bad (refused_by shape at ++ xs)
refused_least bad xs Interval at = least_last bad xs at
refused_least bad xs Atom at = refl
refused_least bad xs Other at = refl

-- ---- words by place
pub words_long : (text : List ℕ) (tokens : List Token) (at : ℕ) → length (words_at text tokens at) ≡ length tokens - at
words_long text tokens at = length-drop at (words_of text tokens) ∙ ap (λ n. n - at) (length-map tokens (λ token. word_of token.kind (token_bytes text token)))

pub words_next : (text : List ℕ) (tokens : List Token) (at : ℕ) → drop 1 (words_at text tokens at) ≡ words_at text tokens (at + 1)
words_next text tokens at = drop-drop 1 at (words_of text tokens)

-- the names with one that is new
pub name_added : (names now : List Name) (name : List ℕ) (found number : ℕ) → found ≡ number_of names name → (found == 0) ≡ true → now ≡ names ++ record { text = name } ∷ [] → number ≡ length now
    → (now ≡ with_name names name) × (number ≡ number_of now name)
name_added names now name found number is zero_is added counted =
    let none : number_of names name ≡ 0 = sym is ∙ eqb-true found 0 zero_is in
    let same : now ≡ with_name names name = added ∙ sym (ap (λ b. if b then names ++ record { text = name } ∷ [] else names) (ap (λ n. n == 0) (sym is) ∙ zero_is)) in
    let last = number_last 0 names name none in
    let long = ap length added in
    let long2 = length-append names (record { text = name } ∷ []) in
    (same, counted ∙ omega (arith, long, long2, last) ∙ ap (λ z. number_of z name) (sym added))

pub name_kept : (names : List Name) (name : List ℕ) (found number : ℕ) → found ≡ number_of names name → (found == 0) ≡ false → number ≡ found → (names ≡ with_name names name) × (number ≡ number_of names name)
name_kept names name found number is nonzero counted =
    (sym (ap (λ b. if b then names ++ record { text = name } ∷ [] else names) (ap (λ n. n == 0) (sym is) ∙ nonzero)), counted ∙ is)

pub if_ok_along : {T E : Type 0} (r : Result T E) (P Q : T → Type 0) → ((x : T) → P x → Q x) → IfOk r P → IfOk r Q
if_ok_along (Ok x) P Q step h = step x h
if_ok_along (Err e) P Q step h = tt
