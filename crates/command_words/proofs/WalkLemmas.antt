-- The walk over words that have the form uses each piece in turn, and ends where a use is refused.
use Rattle.std.proofs.Common.{◌≡◌, ◌∙◌, ◌||◌, ◌==◌, ◌<◌, ◌+◌, ℕ, Bool, true, false, List, [], ◌∷◌, ◌++◌, Some, None, Option, refl, sym, ap, ap₂, subst, codes, eqb, cond, map, length, get_or, arith}
use Rattle.std.specs.List.{starts_with, position_or_len}
use Rattle.std.specs.Prelude.{nat_eq, fold}
use Rattle.std.specs.Str.{bytes_eq}
use Rattle.std.proofs.lemmas.Bool.{eqb-true, and_parts, not-true}
use Rattle.std.proofs.lemmas.List.{length-drop}
use Rattle.std.proofs.lemmas.List.Sums.{split_at_first, passes_at_first}
use Rattle.clap.specs.Walk.{Row, Text, Walk, Held, Waiting, idle, option, positional, settled_rows, walked}
use Rattle.clap.specs.Faults.{settle_fault, turn_fault, walk_fault}
use Rattle.clap.specs.Kinds.{Kinds, or_else}
use Rattle.command_words.specs.Words.{Piece, given, file, is_plain, is_file, is_option, is_attached, before_equals, behind_equals, with_piece, files_behind, pieces_from}
use Rattle.command_words.specs.Settings.{solver_options}
use Rattle.command_words.proofs.StepLemmas.{shape, rules, at, resting, settled_after, pending_fault, rows_used, used_fault, or_else-nil, or_else-assoc, text_is, waits_step, takes_step, attached_step, trailing_file_step, dash_file_step, plain_file_step, dashes_step}

-- the argument that a piece uses, and the value
abbrev pub Use : Type 0
Use = Text × Text

abbrev pub use_of : Piece → Use
use_of (given o v) = (o, v)
use_of (file word) = (codes "FILE", word)

-- the rows after all uses
abbrev pub rows_with : List Row → List Use → List Row
rows_with rows [] = rows
rows_with rows (u ∷ us) = rows_with (rows_used u.0 u.1 rows) us

-- what the first use that is refused is refused for
abbrev pub uses_fault : List Row → List Use → Kinds
uses_fault rows [] = []
uses_fault rows (u ∷ us) = or_else (used_fault u.0 u.1 rows) (uses_fault (rows_used u.0 u.1 rows) us)

abbrev pub end_of : Walk → List Text → Held
end_of w words = (fold (walked rules []) w words).held

-- the walk over the words makes these uses of these rows, after what `before` refuses
pub record Makes (w : Walk) (words : List Text) (before : Kinds) (rows : List Row) (us : List Use) : Type 0 where
  pub rows_end : settled_rows rules (end_of w words).pending (end_of w words).rows ≡ rows_with rows us
  pub fault_end : or_else (walk_fault shape [] w words) (settle_fault rules false (end_of w words)) ≡ or_else before (uses_fault rows us)

-- one more word before them
makes_step : (w v : Walk) (word : Text) (rest : List Text) (turn before old : Kinds) (rows old_rows : List Row) (us old_us : List Use)
    → walked rules [] w word ≡ v → turn_fault shape [] w word ≡ turn
    → rows_with rows us ≡ rows_with old_rows old_us
    → or_else turn (or_else before (uses_fault rows us)) ≡ or_else old (uses_fault old_rows old_us)
    → Makes v rest before rows us → Makes w (word ∷ rest) old old_rows old_us
unfolding walk_fault
makes_step w v word rest turn before old rows old_rows us old_us goes faults same_rows same_fault made =
    let here : Makes (walked rules [] w word) rest before rows us = subst (λ (x : Walk). Makes x rest before rows us) (sym goes) made in
    record {
      rows_end = here.rows_end ∙ same_rows;
      fault_end = or_else-assoc (turn_fault shape [] w word) (walk_fault shape [] (walked rules [] w word) rest) (settle_fault rules false (end_of (walked rules [] w word) rest))
          ∙ ap (λ (k : Kinds). or_else k (or_else (walk_fault shape [] (walked rules [] w word) rest) (settle_fault rules false (end_of (walked rules [] w word) rest)))) faults
          ∙ ap (or_else turn) here.fault_end
          ∙ same_fault;
    }

makes_end : (rows : List Row) (p : Option (Text × List Text)) (waiting : Waiting) (t : Bool)
    → Makes (at rows p waiting t) [] (pending_fault p rows) (settled_after p rows) []
unfolding walk_fault
makes_end rows p waiting t = record { rows_end = refl; fault_end = sym (or_else-nil (pending_fault p rows)) }

-- the pieces' options are options
abbrev pub KnownPieces : List Piece → Type 0
KnownPieces [] = Unit {0}
KnownPieces (given o v ∷ rest) = (is_option solver_options o ≡ true) × KnownPieces rest
KnownPieces (file word ∷ rest) = KnownPieces rest

-- behind `--`
abbrev pub MakesTrailing : List Text → Option (List Piece) → Type 0
MakesTrailing words None = Unit {0}
MakesTrailing words (Some ps) = ((rows : List Row) (p : Option (Text × List Text)) (r : Bool)
    → Makes (at rows p (resting r) true) words (pending_fault p rows) (settled_after p rows) (map use_of ps)) × KnownPieces ps

-- before `--`, where a value is waited for or not
abbrev pub MakesFrom : Option Text → List Text → Option (List Piece) → Type 0
MakesFrom o words None = Unit {0}
MakesFrom None words (Some ps) = ((rows : List Row) (p : Option (Text × List Text)) (r : Bool)
    → Makes (at rows p (resting r) false) words (pending_fault p rows) (settled_after p rows) (map use_of ps)) × KnownPieces ps
MakesFrom (Some o) words (Some ps) = ((rows : List Row)
    → Makes (at rows (Some (o, [])) (option o) false) words [] rows (map use_of ps)) × KnownPieces ps

-- a choice by a test, with what each branch knows
choose : {X : Type 0} (P : X → Type 0) (b : Bool) (x y : X) → (b ≡ true → P x) → (b ≡ false → P y) → P (cond b x y)
choose P true x y if_true if_false = if_true refl
choose P false x y if_true if_false = if_false refl

trailing_piece : (word : Text) (rest : List Text) (found : Option (List Piece)) → MakesTrailing rest found → MakesTrailing (word ∷ rest) (with_piece (file word) found)
trailing_piece word rest None made = tt
trailing_piece word rest (Some ps) made = (
  λ rows p r.
      let step = trailing_file_step word rows p r in
      makes_step (at rows p (resting r) true) (at (settled_after p rows) (Some (codes "FILE", word ∷ [])) positional true) word rest
      (pending_fault p rows) (used_fault (codes "FILE") word (settled_after p rows)) (pending_fault p rows)
      (rows_used (codes "FILE") word (settled_after p rows)) (settled_after p rows) (map use_of ps) ((codes "FILE", word) ∷ map use_of ps)
      step.0 step.1 refl refl (made.0 (settled_after p rows) (Some (codes "FILE", word ∷ [])) false),
  made.1,
)

trailing : (words : List Text) → MakesTrailing words (files_behind words)
trailing [] = (λ rows p r. makes_end rows p (resting r) true, tt)
trailing (word ∷ rest) = choose (MakesTrailing (word ∷ rest)) (length word == 0) None (with_piece (file word) (files_behind rest))
    (λ empty. tt) (λ full. trailing_piece word rest (files_behind rest) (trailing rest))

-- the value of an option
valued : (o : Text) → is_option solver_options o ≡ true → (x : ℕ) (xs : Text) → eqb x 45 ≡ false → (rest : List Text) (found : Option (List Piece))
    → MakesFrom None rest found → MakesFrom (Some o) ((x ∷ xs) ∷ rest) (with_piece (given o (x ∷ xs)) found)
valued o known x xs ne rest None made = tt
valued o known x xs ne rest (Some ps) made = (
  λ rows.
      let step = takes_step o known rows x xs ne in
      makes_step (at rows (Some (o, [])) (option o) false) (at rows (Some (o, (x ∷ xs) ∷ [])) idle false) (x ∷ xs) rest
      [] (used_fault o (x ∷ xs) rows) [] (rows_used o (x ∷ xs) rows) rows (map use_of ps) ((o, x ∷ xs) ∷ map use_of ps)
      step.0 step.1 refl refl (made.0 rows (Some (o, (x ∷ xs) ∷ [])) true),
  (known, made.1),
)

-- an option that stands alone
alone : (o : Text) → is_option solver_options o ≡ true → (rest : List Text) (found : Option (List Piece)) → MakesFrom (Some o) rest found → MakesFrom None (o ∷ rest) found
alone o known rest None made = tt
alone o known rest (Some ps) made = (
  λ rows p r.
      let step = waits_step o known rows p r in
      makes_step (at rows p (resting r) false) (at (settled_after p rows) (Some (o, [])) (option o) false) o rest
      (pending_fault p rows) [] (pending_fault p rows) (settled_after p rows) (settled_after p rows) (map use_of ps) (map use_of ps)
      step.0 step.1 refl refl (made.0 (settled_after p rows)),
  made.1,
)

-- an option with its value behind `=`
joined : (o : Text) → is_option solver_options o ≡ true → starts_with nat_eq o (codes "--") ≡ true → (y : ℕ) (ys : Text) (rest : List Text) (found : Option (List Piece))
    → MakesFrom None rest found → MakesFrom None ((o ++ (61 ∷ y ∷ ys)) ∷ rest) (with_piece (given o (y ∷ ys)) found)
joined o known long y ys rest None made = tt
joined o known long y ys rest (Some ps) made = (
  λ rows p r.
      let step = attached_step o known long rows p r y ys in
      makes_step (at rows p (resting r) false) (at (rows_used o (y ∷ ys) (settled_after p rows)) None idle false) (o ++ (61 ∷ y ∷ ys)) rest
      (or_else (pending_fault p rows) (used_fault o (y ∷ ys) (settled_after p rows))) [] (pending_fault p rows)
      (rows_used o (y ∷ ys) (settled_after p rows)) (settled_after p rows) (map use_of ps) ((o, y ∷ ys) ∷ map use_of ps)
      step.0 step.1 refl (or_else-assoc (pending_fault p rows) (used_fault o (y ∷ ys) (settled_after p rows)) (uses_fault (rows_used o (y ∷ ys) (settled_after p rows)) (map use_of ps)))
      (made.0 (rows_used o (y ∷ ys) (settled_after p rows)) None true),
  (known, made.1),
)

-- a FILE, by its step
filed : (word : Text) → ((rows : List Row) (p : Option (Text × List Text)) (r : Bool)
    → (walked rules [] (at rows p (resting r) false) word ≡ at (settled_after p rows) (Some (codes "FILE", word ∷ [])) positional false)
    × (turn_fault shape [] (at rows p (resting r) false) word ≡ pending_fault p rows))
    → (rest : List Text) (found : Option (List Piece)) → MakesFrom None rest found → MakesFrom None (word ∷ rest) (with_piece (file word) found)
filed word steps rest None made = tt
filed word steps rest (Some ps) made = (
  λ rows p r.
      let step = steps rows p r in
      makes_step (at rows p (resting r) false) (at (settled_after p rows) (Some (codes "FILE", word ∷ [])) positional false) word rest
      (pending_fault p rows) (used_fault (codes "FILE") word (settled_after p rows)) (pending_fault p rows)
      (rows_used (codes "FILE") word (settled_after p rows)) (settled_after p rows) (map use_of ps) ((codes "FILE", word) ∷ map use_of ps)
      step.0 step.1 refl refl (made.0 (settled_after p rows) (Some (codes "FILE", word ∷ [])) false),
  made.1,
)

-- `--`
dashed : (rest : List Text) (found : Option (List Piece)) → MakesTrailing rest found → MakesFrom None (codes "--" ∷ rest) found
dashed rest None made = tt
dashed rest (Some ps) made = (
  λ rows p r.
      let step = dashes_step rows p r in
      makes_step (at rows p (resting r) false) (at rows p (resting r) true) (codes "--") rest
      [] (pending_fault p rows) (pending_fault p rows) (settled_after p rows) (settled_after p rows) (map use_of ps) (map use_of ps)
      step.0 step.1 refl refl (made.0 rows p r),
  made.1,
)

plain_first : (word : Text) → is_plain word ≡ true → (x : ℕ) × (xs : Text) × (word ≡ x ∷ xs) × (eqb x 45 ≡ false)
plain_first [] h = cc
plain_first (x ∷ xs) h = (x, xs, refl, not-true (eqb x 45) h)

-- the word is what stands before the `=`, the `=` and what stands behind it
split_equals : (word : Text) → (length (behind_equals word) == 0) ≡ false → (y : ℕ) × (ys : Text) × (behind_equals word ≡ y ∷ ys) × (word ≡ before_equals word ++ (61 ∷ y ∷ ys))
split_equals word full = go (behind_equals word) refl
  where
    test : ℕ → Bool
    test byte = byte == 61

    go : (v : Text) → behind_equals word ≡ v → (y : ℕ) × (ys : Text) × (behind_equals word ≡ y ∷ ys) × (word ≡ before_equals word ++ (61 ∷ y ∷ ys))
    go [] e = let bad : true ≡ false = subst (λ (v : Text). (length v == 0) ≡ false) e full in cc
    go (y ∷ ys) e =
        let long = length-drop (position_or_len test word + 1) word in
        let within : position_or_len test word < length word = omega (arith, long, ap length e) in
        let equals : get_or word (position_or_len test word) 0 ≡ 61 = eqb-true _ _ (passes_at_first test word 0 within) in
        (y, ys, e, split_at_first test word 0 within ∙ ap (λ (t : Text). before_equals word ++ t) (ap₂ (λ (a : ℕ) (t : Text). a ∷ t) equals e))

-- a FILE before `--`
any_file : (word : Text) → is_file word ≡ true → (rest : List Text) (found : Option (List Piece)) → MakesFrom None rest found → MakesFrom None (word ∷ rest) (with_piece (file word) found)
any_file word h rest found made = go (bytes_eq word (codes "-")) refl h
  where
    go : (b : Bool) → bytes_eq word (codes "-") ≡ b → (b || is_plain word) ≡ true → MakesFrom None (word ∷ rest) (with_piece (file word) found)
    go true e _ = subst (λ (w : Text). MakesFrom None (w ∷ rest) (with_piece (file w) found)) (sym (text_is word (codes "-") e)) (filed (codes "-") dash_file_step rest found made)
    go false e plain' =
        let first = plain_first word plain' in
        subst (λ (w : Text). MakesFrom None (w ∷ rest) (with_piece (file w) found)) (sym first.2) (filed (first.0 ∷ first.1) (plain_file_step first.0 first.1 first.3) rest found made)

module _ (options : List Text) (sub : (o : Text) → is_option options o ≡ true → is_option solver_options o ≡ true) where
  attached : (word : Text) → is_attached options word ≡ true → (rest : List Text) (found : Option (List Piece)) → MakesFrom None rest found
      → MakesFrom None (word ∷ rest) (with_piece (given (before_equals word) (behind_equals word)) found)
  attached word h rest found made =
      let parts = and_parts _ _ h in
      let more = and_parts _ _ parts.1 in
      let split = split_equals word (not-true (length (behind_equals word) == 0) more.1) in
      let made_at = joined (before_equals word) (sub (before_equals word) more.0) parts.0 split.0 split.1 rest found made in
      let valued_at : MakesFrom None ((before_equals word ++ (61 ∷ split.0 ∷ split.1)) ∷ rest) (with_piece (given (before_equals word) (behind_equals word)) found) =
      subst (λ (v : Text). MakesFrom None ((before_equals word ++ (61 ∷ split.0 ∷ split.1)) ∷ rest) (with_piece (given (before_equals word) v) found)) (sym split.2) made_at in
      subst (λ (w : Text). MakesFrom None (w ∷ rest) (with_piece (given (before_equals word) (behind_equals word)) found)) (sym split.3) valued_at

  -- the walk uses the pieces of the words
  pub makes_from : (words : List Text) (waits : Option Text) → ((o : Text) → waits ≡ Some o → is_option solver_options o ≡ true)
      → MakesFrom waits words (pieces_from options waits words)
  makes_from [] None known = (λ rows p r. makes_end rows p (resting r) false, tt)
  makes_from [] (Some o) known = tt
  makes_from (word ∷ rest) (Some o) known =
      choose (MakesFrom (Some o) (word ∷ rest)) (is_plain word) (with_piece (given o word) (pieces_from options None rest)) None
      (λ plain'. let first = plain_first word plain' in
      subst (λ (w : Text). MakesFrom (Some o) (w ∷ rest) (with_piece (given o w) (pieces_from options None rest))) (sym first.2)
      (valued o (known o refl) first.0 first.1 first.3 rest (pieces_from options None rest) (makes_from rest None (λ q e. cc))))
      (λ dash. tt)
  makes_from (word ∷ rest) None known =
      choose (MakesFrom None (word ∷ rest)) (bytes_eq word (codes "--")) (files_behind rest) _
      (λ is. subst (λ (w : Text). MakesFrom None (w ∷ rest) (files_behind rest)) (sym (text_is word (codes "--") is)) (dashed rest (files_behind rest) (trailing rest)))
      (λ _. choose (MakesFrom None (word ∷ rest)) (is_option options word) (pieces_from options (Some word) rest) _
      (λ is. alone word (sub word is) rest (pieces_from options (Some word) rest)
      (makes_from rest (Some word) (λ q e. let same : word ≡ q = cc in subst (λ (w : Text). is_option solver_options w ≡ true) same (sub word is))))
      (λ _. choose (MakesFrom None (word ∷ rest)) (is_attached options word) (with_piece (given (before_equals word) (behind_equals word)) (pieces_from options None rest)) _
      (λ is. attached word is rest (pieces_from options None rest) (makes_from rest None (λ q e. cc)))
      (λ _. choose (MakesFrom None (word ∷ rest)) (is_file word) (with_piece (file word) (pieces_from options None rest)) None
      (λ is. any_file word is rest (pieces_from options None rest) (makes_from rest None (λ q e. cc)))
      (λ _. tt))))
