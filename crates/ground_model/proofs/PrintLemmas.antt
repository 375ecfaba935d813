-- Lines of entries.
use Rattle.std.proofs.Common.{◌≡◌, ◌<◌, ◌+◌, ◌-◌, ℕ, zero, suc, Bool, true, false, cond, List, [], ◌∷◌, ◌++◌, map, reverse, length, drop, filter, slice_index_or, codes, refl, sym, ◌∙◌, ap, ap₂, append_assoc, arith}
use Rattle.std.specs.List.{AllByRecursion, join_by, range_with_len}
use Rattle.std.proofs.lemmas.List.{reverse-append}
use Rattle.symbols.specs.Symbol.{Symbol}
use Rattle.ground_model.specs.declared.program.GroundProgram.{GroundProgram}
use Rattle.ground_model.specs.declared.answer.Answer.{Answer}
use Rattle.ground_model.specs.Answers.{IsNumbered}
use Rattle.ground_model.specs.inner.Ordered.{is_smaller, number_placed, numbers_placed, spaced}
use Rattle.ground_model.specs.Printed.{Entry, placed, in_order, name_of, is_shown, atom_entry, variable_entry, entries, answer_line}
use Rattle.ground_model.specs.World.{flagged_from}

pub joined : (program : GroundProgram) (answer : Answer) → drop 1 (spaced (entries program answer)) ≡ answer_line program answer
joined program answer = go (entries program answer)
  where
    go : (list : List Entry) → drop 1 (spaced list) ≡ join_by (λ entry. entry.1) (codes " ") list
    go [] = refl
    go (entry ∷ rest) = refl

pub spaced_append : (xs ys : List Entry) → spaced (xs ++ ys) ≡ spaced xs ++ spaced ys
spaced_append [] ys = refl
spaced_append (entry ∷ xs) ys =
    ap (λ rest. (codes " " ++ entry.1) ++ rest) (spaced_append xs ys) ∙ sym (append_assoc (codes " " ++ entry.1) (spaced xs) (spaced ys))

module _ (entry : ℕ → Entry) where
  abbrev name : ℕ → Symbol
  name n = (entry n).0

  placed_map : (n : ℕ) (numbers : List ℕ) → placed (entry n) (map entry numbers) ≡ map entry (number_placed name n numbers)
  placed_map n [] = refl
  placed_map n (first ∷ rest) = go (is_smaller name first n) (placed_map n rest)
    where
      go : (t : Bool) → placed (entry n) (map entry rest) ≡ map entry (number_placed name n rest)
          → cond t (entry first ∷ placed (entry n) (map entry rest)) (entry n ∷ entry first ∷ map entry rest)
          ≡ map entry (cond t (first ∷ number_placed name n rest) (n ∷ first ∷ rest))
      go true e = ap (λ list. entry first ∷ list) e
      go false e = refl

  pub in_order_map : (numbers : List ℕ) → in_order (map entry numbers) ≡ map entry (numbers_placed name numbers [])
  in_order_map [] = refl
  in_order_map (n ∷ rest) = ap (placed (entry n)) (in_order_map rest) ∙ placed_map n (numbers_placed name rest [])

-- the top of a stack comes first
pub popped : (entry : ℕ → Entry) (numbers : List ℕ) (n : ℕ)
    → spaced (map entry (reverse (numbers ++ n ∷ []))) ≡ (codes " " ++ (entry n).1) ++ spaced (map entry (reverse numbers))
popped entry numbers n = ap (λ list. spaced (map entry list)) (reverse-append numbers (n ∷ []))

-- the flags from a number on that are set, as a filter of the numbers
pub flagged_filter : (before : ℕ) (flags whole : List Bool) → ((k : ℕ) → slice_index_or flags k false ≡ slice_index_or whole (before + k) false)
    → flagged_from (before + 1) flags ≡ filter (is_shown whole) (range_with_len (before + 1) (length flags))
flagged_filter before [] whole same = refl
flagged_filter before (flag ∷ flags) whole same = go flag (same zero) (flagged_filter (before + 1) flags whole next)
  where
    next : (k : ℕ) → slice_index_or flags k false ≡ slice_index_or whole ((before + 1) + k) false
    next k = let e : before + suc k ≡ (before + 1) + k = omega arith in same (suc k) ∙ ap (λ n. slice_index_or whole n false) e

    go : (t : Bool) → t ≡ slice_index_or whole (before + zero) false → flagged_from (before + 1 + 1) flags ≡ filter (is_shown whole) (range_with_len (before + 1 + 1) (length flags))
        → flagged_from (before + 1) (t ∷ flags) ≡ cond (is_shown whole (before + 1)) ((before + 1) ∷ filter (is_shown whole) (range_with_len (before + 1 + 1) (length flags))) (filter (is_shown whole) (range_with_len (before + 1 + 1) (length flags)))
    go t e rest =
        let s : before + zero ≡ before + 1 - 1 = omega arith in
        let shown : t ≡ is_shown whole (before + 1) = e ∙ ap (λ n. slice_index_or whole n false) s in
        by_flag t shown rest
      where
        by_flag : (t : Bool) → t ≡ is_shown whole (before + 1) → flagged_from (before + 1 + 1) flags ≡ filter (is_shown whole) (range_with_len (before + 1 + 1) (length flags))
            → flagged_from (before + 1) (t ∷ flags) ≡ cond (is_shown whole (before + 1)) ((before + 1) ∷ filter (is_shown whole) (range_with_len (before + 1 + 1) (length flags))) (filter (is_shown whole) (range_with_len (before + 1 + 1) (length flags)))
        by_flag true shown rest =
            ap (λ list. (before + 1) ∷ list) rest
            ∙ ap (λ t. cond t ((before + 1) ∷ filter (is_shown whole) (range_with_len (before + 1 + 1) (length flags))) (filter (is_shown whole) (range_with_len (before + 1 + 1) (length flags)))) shown
        by_flag false shown rest =
            rest
            ∙ ap (λ t. cond t ((before + 1) ∷ filter (is_shown whole) (range_with_len (before + 1 + 1) (length flags))) (filter (is_shown whole) (range_with_len (before + 1 + 1) (length flags)))) shown

pub flagged_shown : (flags : List Bool) → flagged_from 1 flags ≡ filter (is_shown flags) (range_with_len 1 (length flags))
flagged_shown flags = flagged_filter 0 flags flags (λ k. let e : k ≡ 0 + k = omega arith in ap (λ n. slice_index_or flags n false) e)

-- the numbers of flags are those of flags
pub flagged_numbered : (n last : ℕ) (flags : List Bool) → 0 < n → last + 1 ≡ n + length flags → AllByRecursion (IsNumbered last) (flagged_from n flags)
flagged_numbered n last [] above e = tt
flagged_numbered n last (true ∷ flags) above e =
    (record { above = above; known = omega arith }, flagged_numbered (n + 1) last flags (omega arith) (omega arith))
flagged_numbered n last (false ∷ flags) above e = flagged_numbered (n + 1) last flags (omega arith) (omega arith)

pub spaced_entries : (program : GroundProgram) (answer : Answer) (atoms variables : List ℕ)
    → atoms ≡ numbers_placed (name_of program.symbols program.atoms) (filter (is_shown program.shown_atoms) answer.atoms) []
    → variables ≡ numbers_placed (name_of program.symbols program.variables) (flagged_from 1 program.shown_variables) []
    → spaced (map (atom_entry program) atoms) ++ spaced (map (variable_entry program answer.values) variables) ≡ spaced (entries program answer)
spaced_entries program answer atoms variables order others =
    let shown : flagged_from 1 program.shown_variables ≡ filter (is_shown program.shown_variables) (range_with_len 1 (length program.variables)) =
    flagged_shown program.shown_variables ∙ ap (λ n. filter (is_shown program.shown_variables) (range_with_len 1 n)) program.variable_flags in
    let first : map (atom_entry program) atoms ≡ in_order (map (atom_entry program) (filter (is_shown program.shown_atoms) answer.atoms)) =
    ap (map (atom_entry program)) order ∙ sym (in_order_map (atom_entry program) (filter (is_shown program.shown_atoms) answer.atoms)) in
    let second : map (variable_entry program answer.values) variables
    ≡ in_order (map (variable_entry program answer.values) (filter (is_shown program.shown_variables) (range_with_len 1 (length program.variables)))) =
    ap (map (variable_entry program answer.values)) (others ∙ ap (λ list. numbers_placed (name_of program.symbols program.variables) list []) shown)
    ∙ sym (in_order_map (variable_entry program answer.values) (filter (is_shown program.shown_variables) (range_with_len 1 (length program.variables)))) in
    ap₂ (λ x y. spaced x ++ spaced y) first second
    ∙ sym (spaced_append (in_order (map (atom_entry program) (filter (is_shown program.shown_atoms) answer.atoms)))
    (in_order (map (variable_entry program answer.values) (filter (is_shown program.shown_variables) (range_with_len 1 (length program.variables))))))
