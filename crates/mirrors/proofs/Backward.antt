-- A side of a relation, read from the cells: its last letter, and what stands before that, put into another cell from its end.
use Rattle.std.proofs.Common.{◌≡◌, refl, sym, ap, ◌∙◌, List, ◌∷◌, ◌++◌, reverse, ℕ, zero, suc, ◌+◌, ◌-◌, ◌≤◌, ◌<◌, arith, length, take, drop, get_or, set}
use mathlib.Core.List.{append-nil}
use Rattle.std.proofs.lemmas.List.{drop_all, get_or-take, get_or-drop, get_or-reverse}
use Rattle.std.proofs.lemmas.Slice.{drop-put_mid}
use borrow.Rule.Slice.PartMut.{put_mid, take_put, same_len_mid}
use mathlib.Core.Logic.{⊎_elim}
use native.Mathlib.Numerals.{add-one}
use native.Mathlib.Decide.{dec_lt}
use lib.ListN.{length-set, length-drop, length-reverse}
use lib.Seq.{take_at, drop_at, length-take-le, get_or-set_same, get_or-set_other}
use Rattle.model.specs.Word.{Positive}
use Rattle.model.specs.Range.{InRange}
use Rattle.model.specs.Mirror.{from_end}
use Rattle.model.specs.Areas.{begins}
use Rattle.model.proofs.Lists.{all_reverse}
use Rattle.model.proofs.Mirrors.{last_is, before_is, before_length, before_named}
use Rattle.cells.specs.Stands.{HoldsWord}
use Rattle.cells.specs.Kept.{KeptOutside}
use Rattle.cells.specs.Layout.{cell_length}
use Rattle.mirrors.specs.Sides.{Short, EndsIn, PutBackward}

-- the letters of the side, as they lie behind the length of a cell
abbrev pub side_at : List ℕ → ℕ → ℕ → ℕ → ℕ
side_at cells a cell k = get_or (a ∷ drop (cell + 1) cells) k 0

pub side_next : (cells : List ℕ) (a cell k : ℕ) → get_or cells (cell + 1 + k) 0 ≡ side_at cells a cell (k + 1)
side_next cells a cell k = sym (ap (λ i. side_at cells a cell i) (add-one k) ∙ get_or-drop (cell + 1) cells k 0)

module _ (cells : List ℕ) (a cell size : ℕ) (x : Positive) (h : HoldsWord size cells cell x) where
  side_letter : (k : ℕ) → k ≤ length x → side_at cells a cell k ≡ get_or (a ∷ x) k 0
  side_letter zero l = refl
  side_letter (suc k) l = get_or-drop (cell + 1) cells k 0 ∙ h.letters k (omega arith)

-- THE LAST LETTER

pub ends_behind : (cells : List ℕ) (a cell : ℕ) → (get_or cells cell 0 ≡ 0 → ⊥) → EndsIn cells a cell (get_or cells (cell + get_or cells cell 0) 0)
ends_behind cells a cell some size x h =
    let there : cell + get_or cells cell 0 ≡ cell + 1 + (length x - 1) = omega (arith, h.count) in
    let all : length x - 1 + 1 ≡ length x = omega (arith, h.count) in
    ap (λ i. get_or cells i 0) there
    ∙ (side_next cells a cell (length x - 1)
    ∙ (ap (side_at cells a cell) all ∙ (side_letter cells a cell size x h (length x) (omega arith) ∙ sym (last_is a x))))

-- WHAT STANDS BEFORE IT

-- a part of the mirror is written
module _ (mirror : List ℕ) (from k : ℕ) (part : List ℕ) (inside : from + k ≤ length mirror) (long : length part ≡ k) where
  abbrev put : List ℕ
  put = put_mid from k mirror part

  put_length : length put ≡ length mirror
  put_length = same_len_mid from k mirror part (long ∙ sym (length-take-le k (drop from mirror) (omega (arith, length-drop from mirror))))

  in_front : (i : ℕ) → i < from → get_or put i 0 ≡ get_or mirror i 0
  in_front i h =
      sym (get_or-take from put i 0 h) ∙ (ap (λ l. get_or l i 0) (take_put from k mirror part (omega arith)) ∙ get_or-take from mirror i 0 h)

  within : (j : ℕ) → j < k → get_or put (from + j) 0 ≡ get_or part j 0
  within j h =
      sym (get_or-drop from put j 0)
      ∙ (sym (get_or-take k (drop from put) j 0 h)
      ∙ ap (λ l. get_or (take k l) j 0) (drop_at (take from mirror) (part ++ drop k (drop from mirror)) from (length-take-le from mirror (omega arith)))
      ∙ ap (λ l. get_or l j 0) (take_at part (drop k (drop from mirror)) k long))

  behind : (i : ℕ) → from + k ≤ i → get_or put i 0 ≡ get_or mirror i 0
  behind i h =
      let e : from + k + (i - (from + k)) ≡ i = omega arith in
      ap (λ j. get_or put j 0) (sym e)
      ∙ (sym (get_or-drop (from + k) put (i - (from + k)) 0)
      ∙ (ap (λ l. get_or l (i - (from + k)) 0) (drop-put_mid from k mirror part (from + k) (omega arith) (omega arith) long)
      ∙ (get_or-drop (from + k) mirror (i - (from + k)) 0 ∙ ap (λ j. get_or mirror j 0) e)))

-- the length, the letters behind a but the last, backward, and a
module _ (cells : List ℕ) (a cell : ℕ) (short : Short cells cell) (before : List ℕ) (to : ℕ) (room : to + cell_length ≤ length before)
    (some : 0 < get_or cells cell 0) where
  abbrev count : ℕ
  count = get_or cells cell 0

  abbrev counted : List ℕ
  counted = set before to count

  -- how many letters are turned around
  abbrev turned : ℕ
  turned = to + count - (to + 1)

  abbrev letters : List ℕ
  letters = take (cell + count - (cell + 1)) (drop (cell + 1) cells)

  letters_length : length letters ≡ turned
  letters_length =
      length-take-le (cell + count - (cell + 1)) (drop (cell + 1) cells) (omega (arith, length-drop (cell + 1) cells, short.inside, short.few)) ∙ omega arith

  -- the part that the letters are copied to is as long as they are
  pub copied_letters : (back : List ℕ) → back ≡ begins letters (take turned (drop (to + 1) counted)) → back ≡ letters
  copied_letters back e =
      let lent = take turned (drop (to + 1) counted) in
      let n : length (take turned (drop (to + 1) counted)) ≤ length letters =
      omega (
        arith,
        letters_length,
        length-take-le turned (drop (to + 1) counted) (omega (arith, length-drop (to + 1) counted, length-set before to count, short.few)),
      ) in
      e ∙ (ap (λ l. letters ++ l) (drop_all (length letters) lent n) ∙ append-nil letters)

  back_length : length (reverse letters) ≡ turned
  back_length = length-reverse letters ∙ letters_length

  inside : to + 1 + turned ≤ length counted
  inside = omega (arith, length-set before to count, short.few)

  abbrev mid : List ℕ
  mid = put_mid (to + 1) turned counted (reverse letters)

  abbrev after : List ℕ
  after = set mid (to + count) a

  mid_length : length mid ≡ length before
  mid_length = put_length counted (to + 1) turned (reverse letters) inside back_length ∙ length-set before to count

  kept_outside : KeptOutside before to after
  kept_outside i o =
      get_or-set_other mid (to + count) i a 0 (λ e. ⊎_elim (λ (h : i < to). omega arith) (λ (h : to + cell_length ≤ i). omega (arith, short.few)) o)
      ∙ (⊎_elim
      (λ (h : i < to). in_front counted (to + 1) turned (reverse letters) inside back_length i (omega arith))
      (λ (h : to + cell_length ≤ i). behind counted (to + 1) turned (reverse letters) inside back_length i (omega (arith, short.few))) o
      ∙ get_or-set_other before to i count 0 (λ e. ⊎_elim (λ (h : i < to). omega arith) (λ (h : to + cell_length ≤ i). omega arith) o))

  module _ (size : ℕ) (x : Positive) (named : InRange size a) (h : HoldsWord size cells cell x) where
    long : length (from_end a x).before ≡ count
    long = before_length a x ∙ sym h.count

    -- the letter at j, counted from the end of the cell's word
    letter : (j : ℕ) → j < count → Dec (j + 1 < count) → get_or after (to + 1 + j) 0 ≡ get_or (a ∷ x) (count - 1 - j) 0
    letter j l (yes m) =
        let k = count - 2 - j in
        let there : count - 1 - j ≡ suc k = omega arith in
        let from : length letters - 1 - j ≡ k = omega (arith, letters_length) in
        get_or-set_other mid (to + count) (to + 1 + j) a 0 (λ e. omega arith)
        ∙ (within counted (to + 1) turned (reverse letters) inside back_length j (omega arith)
        ∙ (get_or-reverse letters j 0 (omega (arith, letters_length))
        ∙ (ap (λ i. get_or letters i 0) from
        ∙ (get_or-take (cell + count - (cell + 1)) (drop (cell + 1) cells) k 0 (omega arith)
        ∙ (get_or-drop (cell + 1) cells k 0 ∙ (h.letters k (omega (arith, h.count)) ∙ sym (ap (λ i. get_or (a ∷ x) i 0) there)))))))
    letter j l (no m) =
        let place : to + 1 + j ≡ to + count = omega arith in
        let first : count - 1 - j ≡ 0 = omega arith in
        ap (λ i. get_or after i 0) place
        ∙ (get_or-set_same mid (to + count) a 0 (omega (arith, mid_length, short.few)) ∙ sym (ap (λ i. get_or (a ∷ x) i 0) first))

    held : HoldsWord size after to (reverse (from_end a x).before)
    held =
        record {
          count =
              get_or-set_other mid (to + count) to a 0 (λ e. omega arith)
              ∙ (in_front counted (to + 1) turned (reverse letters) inside back_length to (omega arith)
              ∙ (get_or-set_same before to count 0 (omega arith) ∙ sym (length-reverse (from_end a x).before ∙ long)));
          letters = λ j l.
              let small : j < count = omega (arith, length-reverse (from_end a x).before, long) in
              let same : length (from_end a x).before - 1 - j ≡ count - 1 - j = omega (arith, long) in
              letter j small (dec_lt (j + 1) count)
              ∙ (sym (get_or-take (length x) (a ∷ x) (count - 1 - j) 0 (omega (arith, h.count)))
              ∙ (ap (λ u. get_or u (count - 1 - j) 0) (sym (before_is a x))
              ∙ (sym (ap (λ i. get_or (from_end a x).before i 0) same) ∙ sym (get_or-reverse (from_end a x).before j 0 (omega (arith, long))))));
          in_range =
              record {
                short = omega (arith, length-reverse (from_end a x).before, long, short.few);
                letters = all_reverse (InRange size) (from_end a x).before (before_named size a x named h.in_range.letters);
              };
        }

  -- whatever the part was made of
  pub put_whole : (back : List ℕ) → back ≡ reverse letters → PutBackward cells a cell before to (set (put_mid (to + 1) turned counted back) (to + count) a)
  put_whole back e =
      rw e (record { same_length = length-set mid (to + count) a ∙ mid_length; kept = kept_outside; holds = held })
