use Rattle.std.proofs.Common.{◌≡◌, ◌≤◌, ◌<◌, ◌+◌, ◌-◌, ℕ, length, min, List, [], ◌++◌, take, drop, arith, sym, ap, ◌∙◌, length-drop, take-append-drop}
use Rattle.std.proofs.lemmas.List.{take_all, drop-drop, nil_from_length}
use Rattle.outside_io.proofs.memory_files.MemoryFilesFiles.read.Goals as goal

-- what was copied is the front of what is left, and nothing is left where there was room for more
fronts : (text copied : List ℕ) (at n room : ℕ) → length copied ≡ room → n ≡ min (length (take (length text - at) (drop at text))) room
    → take n copied ≡ take n (take (length text - at) (drop at text))
    → (drop at text ≡ take n copied ++ drop (at + n) text) × (n ≡ 0 → 0 < length copied → drop (at + n) text ≡ [])
fronts text copied at n room size count front =
    let left : List ℕ = drop at text in
    let whole : take (length text - at) left ≡ left = let h : length left ≤ length text - at = omega (arith, length-drop at text) in take_all (length text - at) left h in
    let long : n ≡ min (length left) room = count ∙ ap (λ list. min (length list) room) whole in
    let same : take n copied ≡ take n left = front ∙ ap (take n) whole in
    let back : drop (at + n) text ≡ drop n left = sym (drop-drop n at text) in (
      sym (ap (λ list. list ++ drop (at + n) text) same ∙ ap (λ list. take n left ++ list) back ∙ take-append-drop n left),
      λ none space. back ∙ nil_from_length (drop n left) (omega (arith, length-drop n left)),
    )

pub returns-clause-bytes : goal.returns-clause-bytes
returns-clause-bytes c = fronts c.args.self.now.opened c.copy_front-count.new.buf c.args.self.now.at c.copy_front-count.result (length c.args.buf.now)
    (omega arith) (rw c.items.ensures at c.copy_front-count.ensures.count) (rw c.items.ensures at c.copy_front-count.ensures.front)
