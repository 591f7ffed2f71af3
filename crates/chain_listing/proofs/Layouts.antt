-- The layout of a chain's image while it is made: a slot is pushed, changed, read, and given up to an entry.
use mathlib.Core.Path.{◌≡◌, sym, ap, ap₂, ◌∙◌}
use mathlib.Core.List.{List, [], ◌∷◌, ◌++◌, append_assoc, append-nil}
use Prim.Native.Nat.{ℕ, suc, ◌+◌, ◌-◌, ◌*◌, ◌≤◌, ◌<◌}
use native.Mathlib.Nat.{mul-le-mul_right, suc-mul, add-mul, zero-mul, add_comm, le_of_eq}
use native.Mathlib.Omega.{arith}
use lib.ListN.{length, take, drop, length-append, length-drop, take-append-drop}
use lib.Seq.{drop_at, length-take-le}
use Rattle.model.specs.Bits.{bits_of, digits, bytes_for}
use Rattle.model.specs.Equivalence.{Entry}
use Rattle.model.specs.Enumeration.{concat_map}
use Rattle.model.specs.Images.{entry_bits, entry_width, entry_position, chain_count_width}
use Rattle.model.specs.Services.{chain_bytes}
use Rattle.model.proofs.Lists.{concat_append}
use Rattle.bits.proofs.Digits.{length_digits}
use Rattle.chain_listing.specs.Layout.{tail_bits, Layout}
use Rattle.bits.specs.Fields.{Appended}
use Rattle.chain_listing.proofs.Parts.{part_within, part_left}
use Rattle.entries.proofs.Placing.{length_entry}
use Rattle.bits.proofs.Appending.{appended_at}

pub length_entries : (n : ℕ) (es : List Entry) → length (concat_map (entry_bits n) es) ≡ length es * entry_width n
length_entries n [] = sym (zero-mul (entry_width n))
length_entries n (e ∷ es) =
    length-append (entry_bits n e) (concat_map (entry_bits n) es)
    ∙ (ap₂ (λ i j. i + j) (length_entry n e) (length_entries n es) ∙ turned (entry_width n) (length es))
  where
    turned : (s k : ℕ) → s + k * s ≡ suc k * s
    turned s k = omega (arith, suc-mul k s)

-- where the image ends
pub image_end : (n total : ℕ) → entry_position n total ≤ 8 * chain_bytes n total
image_end n total = up (entry_position n total)
  where
    up : (bits : ℕ) → bits ≤ 8 * bytes_for bits
    up bits = omega arith

pub slot_fits : (n total : ℕ) (answer : List ℕ) → chain_bytes n total ≤ length answer → (index : ℕ) → index < total
    → entry_position n index + entry_width n ≤ 8 * length answer
slot_fits n total answer room index h =
    let m : suc index * entry_width n ≤ total * entry_width n = mul-le-mul_right (entry_width n) (omega arith) in
    let e : suc index * entry_width n ≡ index * entry_width n + entry_width n = suc-mul index (entry_width n) in
    sum (index * entry_width n) (entry_width n) (total * entry_width n) (rw e at m) (image_end n total)
  where
    sum : (i s t : ℕ) → i + s ≤ t → chain_count_width + t ≤ 8 * chain_bytes n total → chain_count_width + i + s ≤ 8 * length answer
    sum i s t p q = omega arith

-- the parts of an image, grouped otherwise
one_group : (d c g h s t : List ℕ) → (d ++ c) ++ ((g ++ h) ++ (s ++ t)) ≡ ((d ++ c) ++ g) ++ (h ++ (s ++ t))
one_group d c g h s t = simp append_assoc

pushed_group : (d c g e s t : List ℕ) → ((d ++ c) ++ g) ++ (e ++ (s ++ t)) ≡ d ++ (c ++ (g ++ ((e ++ s) ++ t)))
pushed_group d c g e s t = simp append_assoc

freed_group : (d c g e s t : List ℕ) → d ++ (c ++ (g ++ ((e ++ s) ++ t))) ≡ (d ++ c) ++ ((g ++ e) ++ (s ++ t))
freed_group d c g e s t = simp append_assoc

entry_group : (d c e g s : List ℕ) → (d ++ c) ++ (e ++ (g ++ s)) ≡ d ++ ((c ++ e) ++ (g ++ s))
entry_group d c e g s = simp append_assoc

module _ (n total : ℕ) (area : List ℕ) (entries : List Entry) where
  abbrev head : List ℕ
  head = digits chain_count_width total ++ concat_map (entry_bits n) entries

  abbrev count : List ℕ
  count = digits chain_count_width total

  abbrev body : List ℕ
  body = concat_map (entry_bits n) entries

  abbrev tail : List ℕ
  tail = tail_bits n total area

  head_length : length head ≡ entry_position n (length entries)
  head_length =
      length-append (digits chain_count_width total) (concat_map (entry_bits n) entries)
      ∙ ap₂ (λ i j. i + j) (length_digits chain_count_width total) (length_entries n entries)

  -- so many slots after the entries
  after_head : (k : ℕ) (l : List ℕ) → length l ≡ k * entry_width n → length (head ++ l) ≡ entry_position n (length entries + k)
  after_head k l e =
      length-append head l ∙ (ap₂ (λ i j. i + j) head_length e ∙ sums (length entries) k (entry_width n))
    where
      sums : (i k s : ℕ) → chain_count_width + i * s + k * s ≡ chain_count_width + (i + k) * s
      sums i k s = omega (arith, add-mul i k s)

  module _ {slots : List Entry} {answer : List ℕ} (h : Layout n total area entries slots answer) where
    bits_are : bits_of answer ≡ head ++ (h.gap ++ (concat_map (entry_bits n) slots ++ tail_bits n total area))
    bits_are = h.bits ∙ sym (append_assoc (digits chain_count_width total) (concat_map (entry_bits n) entries) _)

    -- A FACE IS PUSHED

    module _ (some : length entries + length slots < total) (e : Entry) (index : ℕ) (here : index + (length slots + 1) ≡ total) where
      kept : ℕ
      kept = (h.free - 1) * entry_width n

      one_less : h.gap ≡ take kept h.gap ++ drop kept h.gap
      one_less = sym (take-append-drop kept h.gap)

      gap_is : length h.gap ≡ kept + entry_width n
      unfolding kept
      gap_is =
          let f : h.free ≡ suc (h.free - 1) = omega (arith, h.counted) in
          h.gap_length ∙ (ap (λ i. i * entry_width n) f ∙ suc-mul (h.free - 1) (entry_width n))

      first_part : length (take kept h.gap) ≡ kept
      first_part = length-take-le kept h.gap (part_within kept (entry_width n) (length h.gap) (le_of_eq (sym gap_is)))

      second_part : length (drop kept h.gap) ≡ entry_width n
      second_part = length-drop kept h.gap ∙ part_left kept (entry_width n) (length h.gap) gap_is

      pub pushed : {after : List ℕ} → Appended answer (entry_position n index) (entry_bits n e) after → Layout n total area entries (e ∷ slots) after
      unfolding kept
      pushed {after} p =
          let i : length entries + (h.free - 1) ≡ index = omega (arith, h.counted) in
          let b : bits_of answer ≡ (head ++ take kept h.gap) ++ (drop kept h.gap ++ (concat_map (entry_bits n) slots ++ tail_bits n total area)) =
          bits_are
          ∙ (ap (λ g. head ++ (g ++ (concat_map (entry_bits n) slots ++ tail_bits n total area))) one_less
          ∙ one_group count body (take kept h.gap) (drop kept h.gap) (concat_map (entry_bits n) slots) tail) in
          let l : length (head ++ take kept h.gap) ≡ entry_position n index =
          after_head (h.free - 1) (take kept h.gap) first_part ∙ ap (entry_position n) i in
          record {
            same_length = p.same_length ∙ h.same_length;
            free = h.free - 1;
            gap = take kept h.gap;
            counted = omega (arith, h.counted);
            gap_length = first_part;
            bits =
                appended_at p (head ++ take kept h.gap) (drop kept h.gap) (concat_map (entry_bits n) slots ++ tail_bits n total area) b l
                (second_part ∙ sym (length_entry n e))
                ∙ pushed_group count body (take kept h.gap) (entry_bits n e) (concat_map (entry_bits n) slots) tail;
          }

  -- ITS SLOT IS READ, CHANGED, AND GIVEN UP

  module _ {slots : List Entry} {s : Entry} {answer : List ℕ} (h : Layout n total area entries (s ∷ slots) answer) where
    module _ (index : ℕ) (here : index + (length slots + 1) ≡ total) where
      before_top : length (head ++ h.gap) ≡ entry_position n index
      before_top =
          let i : length entries + h.free ≡ index = omega (arith, h.counted) in
          after_head h.free h.gap h.gap_length ∙ ap (entry_position n) i

      top_bits : bits_of answer ≡ (head ++ h.gap) ++ (entry_bits n s ++ (concat_map (entry_bits n) slots ++ tail_bits n total area))
      top_bits = h.bits ∙ sym (pushed_group count body h.gap (entry_bits n s) (concat_map (entry_bits n) slots) tail)

      pub top_read : drop (entry_position n index) (bits_of answer) ≡ entry_bits n s ++ (concat_map (entry_bits n) slots ++ tail_bits n total area)
      top_read = ap (drop (entry_position n index)) top_bits ∙ drop_at (head ++ h.gap) _ (entry_position n index) before_top

      pub changed : (e : Entry) {after : List ℕ} → Appended answer (entry_position n index) (entry_bits n e) after
          → Layout n total area entries (e ∷ slots) after
      changed e p =
          record {
            same_length = p.same_length ∙ h.same_length;
            free = h.free;
            gap = h.gap;
            counted = h.counted;
            gap_length = h.gap_length;
            bits =
                appended_at p (head ++ h.gap) (entry_bits n s) (concat_map (entry_bits n) slots ++ tail_bits n total area) top_bits before_top
                (length_entry n s ∙ sym (length_entry n e))
                ∙ pushed_group count body h.gap (entry_bits n e) (concat_map (entry_bits n) slots) tail;
          }

    freed : List ℕ
    freed = h.gap ++ entry_bits n s

    freed_length : length freed ≡ entry_width n + h.free * entry_width n
    unfolding freed
    freed_length =
        length-append h.gap (entry_bits n s)
        ∙ (ap₂ (λ i j. i + j) h.gap_length (length_entry n s) ∙ add_comm (h.free * entry_width n) (entry_width n))

    freed_first : length (take (entry_width n) freed) ≡ entry_width n
    freed_first = length-take-le (entry_width n) freed (part_within (entry_width n) (h.free * entry_width n) (length freed) (le_of_eq (sym freed_length)))

    freed_rest : length (drop (entry_width n) freed) ≡ h.free * entry_width n
    freed_rest = length-drop (entry_width n) freed ∙ part_left (entry_width n) (h.free * entry_width n) (length freed) freed_length

    pub given_up : (e : Entry) {after : List ℕ} → Appended answer (entry_position n (length entries)) (entry_bits n e) after
        → Layout n total area (entries ++ (e ∷ [])) slots after
    unfolding freed
    given_up e p =
        let b : bits_of answer ≡ head ++ (take (entry_width n) freed ++ (drop (entry_width n) freed ++ (concat_map (entry_bits n) slots ++ tail))) =
        h.bits
        ∙ (freed_group count body h.gap (entry_bits n s) (concat_map (entry_bits n) slots) tail
        ∙ ap (λ l. head ++ l)
        (ap (λ l. l ++ (concat_map (entry_bits n) slots ++ tail)) (sym (take-append-drop (entry_width n) freed))
        ∙ append_assoc (take (entry_width n) freed) (drop (entry_width n) freed) (concat_map (entry_bits n) slots ++ tail))) in
        record {
          same_length = p.same_length ∙ h.same_length;
          free = h.free;
          gap = drop (entry_width n) freed;
          counted = omega (arith, h.counted, length-append entries (e ∷ []));
          gap_length = freed_rest;
          bits =
              appended_at p head (take (entry_width n) freed) (drop (entry_width n) freed ++ (concat_map (entry_bits n) slots ++ tail)) b
              head_length (freed_first ∙ sym (length_entry n e))
              ∙ (entry_group count body (entry_bits n e) (drop (entry_width n) freed) (concat_map (entry_bits n) slots ++ tail)
              ∙ ap (λ l. count ++ (l ++ (drop (entry_width n) freed ++ (concat_map (entry_bits n) slots ++ tail))))
              (sym (concat_append (entry_bits n) entries (e ∷ []) ∙ ap (λ l. concat_map (entry_bits n) entries ++ l) (append-nil (entry_bits n e)))));
        }
