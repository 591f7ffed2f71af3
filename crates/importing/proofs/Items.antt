-- What is kept of an item and of a pattern, by what stands at their beginning and behind an item.
use mathlib.Core.Path.{◌≡◌, refl, sym, ap, subst, ◌∙◌}
use mathlib.Core.List.{List, [], ◌∷◌}
use mathlib.Core.Bool.{true, false}
use Prim.Native.Nat.{ℕ, zero, suc, ◌+◌, ◌-◌, ◌≤◌, ◌<◌}
use native.Mathlib.Nat.{pos_of_ne-zero}
use native.Mathlib.Numerals.{sub-one}
use native.Mathlib.Omega.{arith}
use lib.ListN.{length, drop}
use lib.Seq.{drop-drop}
use Rattle.model.specs.Outcome.{Outcome, answered, ◌>>=◌}
use Rattle.model.specs.Bits.{Read}
use Rattle.model.specs.Notation.{larger, Item, item_moves, item_highest, space_byte, opening_byte, no_pattern, read_minus, read_move, read_body, read_item}
use Rattle.model.specs.Notation.{read_on}
use Rattle.model.specs.Notation.{read_pattern}
use Rattle.importing.specs.declared.reading.Span.{Span}
use Rattle.importing.specs.Reading.{stands_first, ends_first, capped, Kept, kept, kept_body, kept_item, kept_pattern, closing, counting, Joined, within}
use Rattle.model.proofs.Impossible.{impossible}
use Rattle.importing.proofs.Readers.{body_bracket, body_move, on_space, on_end, all_items, in_nothing, in_items, pattern_in}
use Rattle.importing.proofs.Shorter.{Leaves, item_shortens, within_shortens, all_step}
use Rattle.importing.proofs.Keeping.{bracket_kept, item_kept, onto, onto_nothing, onto_last, onto_more, Answered, kept_answered, kept_refused}

-- AN ITEM

-- a bracket is read one level deeper
pub within_less : (d : ℕ) (t : List ℕ) → (d ≡ 0 → ⊥) → within d t ≡ read_pattern (d - 1) t
within_less zero t deep = absurd (deep refl)
within_less (suc d) t deep = ap (λ k. read_pattern k t) (sym (sub-one (suc d)))

-- and one level deeper is less, by twice the depth
pub deeper : (d : ℕ) → (d ≡ 0 → ⊥) → (d - 1) + (d - 1) + 1 < d + d
deeper d some = omega (arith, pos_of_ne-zero some)

-- `start` is where the body of the item at `at` begins
module _ (text : List ℕ) (at start depth : ℕ) (begins : drop start text ≡ (read_minus (drop at text)).rest) where
  item_from : kept_item (read_item (within depth) (drop at text)) ≡ counting (kept_body (read_body (within depth) (drop start text)))
  item_from = item_kept (within depth) (drop at text) ∙ ap (λ t. counting (kept_body (read_body (within depth) t))) (sym begins)

  module _ (opens : stands_first opening_byte (drop start text) ≡ true) where
    item_opens : kept_item (read_item (within depth) (drop at text)) ≡ counting (closing (kept_pattern (within depth (drop (start + 1) text))))
    item_opens =
        item_from ∙ ap (λ o. counting (kept_body o)) (body_bracket (within depth) (drop start text) opens)
        ∙ ap counting (bracket_kept (within depth (drop 1 (drop start text))))
        ∙ ap (λ t. counting (closing (kept_pattern (within depth t)))) (drop-drop 1 start text)

    pub item_too_deep : depth ≡ 0 → kept_item (read_item (within depth) (drop at text)) ≡ no_pattern
    item_too_deep none = item_opens ∙ ap (λ d. counting (closing (kept_pattern (within d (drop (start + 1) text))))) none

    pub item_bracket : (depth ≡ 0 → ⊥) → kept_item (read_item (within depth) (drop at text)) ≡ counting
        (closing (kept_pattern (read_pattern (depth - 1) (drop (start + 1) text))))
    item_bracket deep = item_opens ∙ ap (λ o. counting (closing (kept_pattern o))) (within_less depth (drop (start + 1) text) deep)

  pub item_move : stands_first opening_byte (drop start text) ≡ false → kept_item (read_item (within depth) (drop at text)) ≡ counting
      (kept_body (read_move (drop start text)))
  item_move e = item_from ∙ ap (λ o. counting (kept_body o)) (body_move (within depth) (drop start text) e)

-- A PATTERN

module _ (depth : ℕ) (t : List ℕ) where
  pub pattern_ends : ends_first t ≡ true → kept_pattern (read_pattern depth t) ≡ answered (record { moves = 0; highest = 0; rest = t })
  pattern_ends e = ap kept_pattern (pattern_in depth t ∙ in_nothing (within depth) t e)

  pub pattern_begins : ends_first t ≡ false → kept_pattern (read_pattern depth t) ≡ onto 0 0 (kept_pattern (all_items (within depth) t))
  pattern_begins e = ap kept_pattern (pattern_in depth t ∙ in_items (within depth) t e) ∙ onto_nothing (all_items (within depth) t)

  -- the items of a text, by what is kept of the first one
  first_item : (o : Outcome (Read Item)) → read_item (within depth) t ≡ o
      → all_items (within depth) t ≡ (o >>= λ i. read_on (all_items (within depth)) i.value i.rest)
  first_item o e = all_step (within depth) (within_shortens depth) t ∙ ap (λ o. o >>= λ i. read_on (all_items (within depth)) i.value i.rest) e

  pub items_refused : (m h : ℕ) → no_pattern ≡ kept_item (read_item (within depth) t) → onto m h (kept_pattern (all_items (within depth) t)) ≡ no_pattern
  items_refused m h e = ap (λ o. onto m h (kept_pattern o)) (first_item no_pattern (kept_refused item_moves item_highest (read_item (within depth) t) e))

  module _ (k : Kept) (e : answered k ≡ kept_item (read_item (within depth) t)) where
    read : Answered item_moves item_highest (read_item (within depth) t) k
    read = kept_answered item_moves item_highest (read_item (within depth) t) k e

    items_last : (m h : ℕ) → stands_first space_byte k.rest ≡ false
        → onto m h (kept_pattern (all_items (within depth) t)) ≡ answered
        (record { moves = capped (m + k.moves); highest = larger h k.highest; rest = k.rest })
    items_last m h s =
        ap (λ o. onto m h (kept_pattern o)) (first_item (answered (record { value = read.value; rest = k.rest })) read.read
        ∙ on_end (all_items (within depth)) read.value k.rest s)
        ∙ onto_last m h read.value k.rest
        ∙ ap (λ n. answered (record { moves = capped (m + n); highest = larger h (item_highest read.value); rest = k.rest })) (sym read.moves_is)
        ∙ ap (λ n. answered (record { moves = capped (m + k.moves); highest = larger h n; rest = k.rest })) (sym read.highest_is)

    items_more : (m h : ℕ) → stands_first space_byte k.rest ≡ true
        → onto m h (kept_pattern (all_items (within depth) t)) ≡ onto (capped (m + k.moves)) (larger h k.highest)
        (kept_pattern (all_items (within depth) (drop 1 k.rest)))
    items_more m h s =
        ap (λ o. onto m h (kept_pattern o)) (first_item (answered (record { value = read.value; rest = k.rest })) read.read
        ∙ on_space (all_items (within depth)) read.value k.rest s)
        ∙ onto_more m h read.value (all_items (within depth) (drop 1 k.rest))
        ∙ ap (λ n. onto (capped (m + n)) (larger h (item_highest read.value)) (kept_pattern (all_items (within depth) (drop 1 k.rest))))
        (sym read.moves_is)
        ∙ ap (λ n. onto (capped (m + k.moves)) (larger h n) (kept_pattern (all_items (within depth) (drop 1 k.rest)))) (sym read.highest_is)

    -- less text is left behind the item and the space
    items_shorter : stands_first space_byte k.rest ≡ true → length (drop 1 k.rest) < length t
    items_shorter s = fewer k.rest s (subst (Leaves (length t)) read.read (item_shortens (within depth) (within_shortens depth) t))
      where
        fewer : (r : List ℕ) → stands_first space_byte r ≡ true → length r ≤ length t → length (drop 1 r) < length t
        fewer [] e h = impossible (cc)
        fewer (x ∷ xs) e h = omega (arith, h)

-- what was read so far, in the loop of the pattern reader, and an item more
module _ (text : List ℕ) (depth : ℕ) (sum item both : Span) (j : Joined sum item both)
    (e : answered (kept text item) ≡ kept_item (read_item (within depth) (drop sum.next text))) where
  rest_is : drop both.next text ≡ drop item.next text
  rest_is = ap (λ k. drop k text) j.next

  -- no space stands after it
  pub joined_last : stands_first space_byte (drop both.next text) ≡ false
      → onto sum.moves sum.highest (kept_pattern (all_items (within depth) (drop sum.next text))) ≡ answered (kept text both)
  joined_last s =
      items_last depth (drop sum.next text) (kept text item) e sum.moves sum.highest (ap (stands_first space_byte) (sym rest_is) ∙ s)
      ∙ ap (λ n. answered (record { moves = n; highest = larger sum.highest item.highest; rest = drop item.next text })) (sym j.moves)
      ∙ ap (λ n. answered (record { moves = both.moves; highest = n; rest = drop item.next text })) (sym j.highest)
      ∙ ap (λ r. answered (record { moves = both.moves; highest = both.highest; rest = r })) (sym rest_is)

  -- a space does, and the text goes on after it
  module _ (s : stands_first space_byte (drop both.next text) ≡ true) where
    space_is : stands_first space_byte (drop item.next text) ≡ true
    space_is = ap (stands_first space_byte) (sym rest_is) ∙ s

    goes_on : drop (both.next + 1) text ≡ drop 1 (drop item.next text)
    goes_on = sym (drop-drop 1 both.next text) ∙ ap (drop 1) rest_is

    pub joined_more : onto sum.moves sum.highest (kept_pattern (all_items (within depth) (drop sum.next text)))
        ≡ onto both.moves both.highest (kept_pattern (all_items (within depth) (drop (both.next + 1) text)))
    joined_more =
        items_more depth (drop sum.next text) (kept text item) e sum.moves sum.highest space_is
        ∙ ap (λ n. onto n (larger sum.highest item.highest) (kept_pattern (all_items (within depth) (drop 1 (drop item.next text))))) (sym j.moves)
        ∙ ap (λ n. onto both.moves n (kept_pattern (all_items (within depth) (drop 1 (drop item.next text))))) (sym j.highest)
        ∙ ap (λ r. onto both.moves both.highest (kept_pattern (all_items (within depth) r))) (sym goes_on)

    pub joined_shorter : length (drop (both.next + 1) text) < length (drop sum.next text)
    joined_shorter =
        subst (λ r. length r < length (drop sum.next text)) (sym goes_on) (items_shorter depth (drop sum.next text) (kept text item) e space_is)
