-- One relation tried at one place of a word: why no entry fits, and what the one that fits makes of the word.
use mathlib.Core.Path.{◌≡◌, refl, sym, ap, ap₂, subst, ◌∙◌}
use mathlib.Core.List.{List, ◌∷◌, ◌++◌}
use mathlib.Core.Bool.{Bool, true, false}
use mathlib.Core.Option.{none, some}
use Prim.Native.Nat.{ℕ, ◌+◌, ◌-◌, ◌≤◌, ◌<◌}
use native.Mathlib.Omega.{arith}
use lib.ListN.{length, take, drop, get_or, length-take, length-drop, take-append-drop}
use lib.Seq.{get_or_at, take_all, take-take, ext_get_or}
use Rattle.std.specs.Prelude.{Option as OptionAnswer, Some, None}
use Rattle.model.specs.Word.{Positive}
use Rattle.model.specs.Presentation.{Presentation}
use Rattle.model.specs.Equivalence.{Entry, equal, applied}
use Rattle.model.specs.Range.{InRange, All}
use Rattle.model.proofs.Impossible.{impossible}
use Rattle.model.proofs.Lists.{all_at}
use Rattle.model.proofs.Entries.{applied_applies}
use Rattle.model.specs.Images.{most_size, most_length}
use Rattle.theory.proofs.Ways.{joined_letters}
use Rattle.cells.specs.Layout.{cell_at, cell_bytes}
use Rattle.swaps.specs.Held.{held_at, Placed}
use Rattle.swaps.proofs.Comparing.{lengths_differ}
use Rattle.swaps.proofs.Applying.{side_fits, other_fits, no_fit_breaks, fit_makes, fit_inside}
use Rattle.areas.proofs.Parts.{taken_length}
use Rattle.ways.specs.declared.swap.Swap.{Swap}
use Rattle.ways.specs.declared.trying.Held.{Held}
use Rattle.ways.specs.Swap.{new_word}
use Rattle.ways.specs.State.{Work, current, Busy, list_of, held_word, entry_at, Progress, TriedMeans, Toward, Swaps}
use Rattle.spans.proofs.Runs.{WordAt}
use Rattle.ways.proofs.Spelling.{word_at}
use Rattle.ways.proofs.NewWords.{part_at}
use Rattle.ways.proofs.Inserting.{part_same}
use Rattle.ways.proofs.Adding.{word_joined}

-- an entry that fits begins with the letter there
entry_letter : (T : Presentation) (w : Positive) (d : Entry) (v : Positive) → applied T w d ≡ some v → d.a ≡ get_or w d.offset 0
entry_letter T w d v h =
    let t = applied_applies T w d v h in
    let s = t.swap in
    let place : length s.before ≡ d.offset = ap (λ q. q.offset) t.same in
    let letter : s.a ≡ d.a = ap (λ q. q.a) t.same in
    sym (ap (λ l. get_or l d.offset 0) s.left ∙ (get_or_at s.before s.a (s.x ++ s.after) 0 d.offset place ∙ letter))

-- so there is one at most
pub only_entry : (T : Presentation) (w : Positive) (o b : ℕ) (d : Entry) (v : Positive) → Toward o b d → applied T w d ≡ some v → d
    ≡ entry_at o (get_or w o 0) b
only_entry T w o b d v p h =
    let letter : d.a ≡ get_or w o 0 = entry_letter T w d v h ∙ ap (λ i. get_or w i 0) p.0 in
    λ i. record { offset = p.0 i; a = letter i; b = p.1 i }

-- THE WORD UNDER TRIAL

-- a part of it stands in the area
pub word_part : (area : List ℕ) (h : Held) → h.word + h.letters ≤ length area → (o n : ℕ) → o + n ≤ h.letters
    → take n (drop (h.word + o) area) ≡ take n (drop o (held_word area h))
word_part area h fits o n few =
    part_same (held_word area h) area o (h.word + o) n (omega (arith, taken_length area h.word h.letters fits)) (omega arith)
    (λ i k. let place : h.word + o + i ≡ h.word + (o + i) = omega arith in
    ap (λ j. get_or area j 0) place ∙ sym (part_at area h.word h.letters (o + i) (omega arith)))

-- what is longer than the rest of it does not stand there
pub short_stands_not : (area : List ℕ) (h : Held) → h.word + h.letters ≤ length area → (o n : ℕ) (side : Positive) → length side ≡ n → o ≤ h.letters
    → h.letters < o + n → equal (take n (drop o (held_word area h))) side ≡ false
short_stands_not area h fits o n side e inside l =
    let few : length (take n (drop o (held_word area h))) ≤ length (held_word area h) - o = simp (length-take, length-drop) (omega arith) in
    lengths_differ (take n (drop o (held_word area h))) side (λ q. omega (arith, few, taken_length area h.word h.letters fits))

module _ {cells : List ℕ} {size : ℕ} (g : Work cells size) (area : List ℕ) (h : Held) (t : Busy g area h) where
  pub busy_word : WordAt area h.word g.word
  busy_word =
      subst (λ k. WordAt area k g.word) (sym t.word_is)
      (word_at area h.used t.earlier_words (current g.word) t.later_words t.sound.spells)

  pub word_inside : h.word + h.letters ≤ length area
  word_inside = omega (arith, busy_word.inside, t.letters_is)

  held_long : length (held_word area h) ≡ h.letters
  held_long = taken_length area h.word h.letters word_inside

  held_is : held_word area h ≡ g.word
  held_is =
      ext_get_or 0 (held_word area h) g.word (held_long ∙ t.letters_is)
      (λ i k. part_at area h.word h.letters i (omega (arith, held_long)) ∙ busy_word.letters i (omega (arith, held_long, t.letters_is)))

  letters : All (InRange g.table.size) g.word
  letters = joined_letters g.table g.weighed.in_range g.program g.word (word_joined g area h t) g.weighed.letters

  module _ (o : ℕ) (inside : o < h.letters) where
    pub letter_there : get_or area (h.word + o) 0 ≡ get_or g.word o 0
    letter_there = busy_word.letters o (omega (arith, t.letters_is))

    pub letter_named : InRange g.table.size (get_or area (h.word + o) 0)
    letter_named =
        subst (InRange g.table.size) (sym letter_there)
        (all_at (InRange g.table.size) g.word o 0 letters (omega (arith, t.letters_is)))

    -- where the entry does not fit, nothing is to be done
    pub none_fits : (b : ℕ) → applied g.table g.word (entry_at o (get_or area (h.word + o) 0) b) ≡ none → Progress g (list_of t) (Toward o b) area h
    none_fits b n =
        record {
          busy = t;
          kept = λ x m. m;
          swaps = λ d v p q.
              let e = only_entry g.table g.word o b d v p q in
              let same : entry_at o (get_or g.word o 0) b ≡ entry_at o (get_or area (h.word + o) 0) b = ap (λ a. entry_at o a b) (sym letter_there) in
              let bad : none ≡ some v = sym n ∙ (ap (applied g.table g.word) (sym (e ∙ same)) ∙ q) in
              impossible (cc);
        }

    -- what the one entry makes of the word is all that there is
    pub one_fits : (b : ℕ) (old : List Positive) (after : List ℕ) (r : OptionAnswer Held)
        → TriedMeans g old (λ d. d ≡ entry_at o (get_or area (h.word + o) 0) b) after r
        → TriedMeans g old (Toward o b) after r
    one_fits b old after (Some k) m =
        record {
          busy = m.busy;
          kept = m.kept;
          swaps = λ d v p q.
              m.swaps d v
              (only_entry g.table g.word o b d v p q ∙ ap (λ a. entry_at o a b) (sym letter_there)) q;
        }
    one_fits b old after None m = m

    -- THE RELATION IN THE CELLS

    module _ (a b : ℕ) (apart : a ≡ b → ⊥) (ra : InRange g.table.size a) (rb : InRange g.table.size b)
        (to : ℕ) (et : to ≡ cell_at a b) (defined : get_or cells to 0 ≡ 255 → ⊥) where
      -- the side that begins with a stands in the word
      abbrev Stood : Bool
      Stood = equal (take (1 + get_or cells to 0) (drop o (held_word area h))) (a ∷ take (get_or cells to 0) (drop (to + 1) cells))

      pub side_held : (to + 1 + get_or cells to 0 ≤ length cells) × (get_or cells to 0 ≤ most_length)
      side_held = side_fits g.table (held_word area h) (entry_at o a b) apart cells g.of.stands ra rb to et defined

      placed : Placed (held_word area h) o o
      placed = record { ordered = omega arith; inside = omega (arith, held_long) }

      whole : held_at (held_word area h) o o ≡ held_word area h
      unfolding held_at
      whole = take-append-drop o (held_word area h)

      pub absent_fits_not : Stood ≡ false → applied g.table g.word (entry_at o a b) ≡ none
      absent_fits_not f =
          ap (λ w. applied g.table w (entry_at o a b)) (sym held_is)
          ∙ no_fit_breaks g.table (held_word area h) (entry_at o a b) apart cells g.of.stands ra rb to et defined (cell_at b a) refl (held_word area h) o
          placed whole f

      module _ (there : Stood ≡ true) (from : ℕ) (ef : from ≡ cell_at b a) where
        pub long : o + (1 + get_or cells to 0) ≤ h.letters
        long =
            omega (
              arith,
              held_long,
              fit_inside (held_word area h) o a _ _ (taken_length cells (to + 1) (get_or cells to 0) side_held.0)
                  (omega (arith, held_long)) there,
            )

        abbrev pub swap : Swap
        swap =
            record {
              word = h.word;
              offset = o;
              taken = 1 + get_or cells to 0;
              rest = h.letters - (o + (1 + get_or cells to 0));
              first = b;
              cell = from;
              put = 1 + get_or cells from 0;
            }

        pub swap_fits : Swaps area cells h swap
        swap_fits =
            let q = other_fits g.table (held_word area h) (entry_at o a b) apart cells g.of.stands ra rb to et defined from ef in
            record {
              readable = record {
                inside = omega (arith, long, word_inside);
                some = omega arith;
                few = omega (arith, q.1);
                held = omega (arith, q.0);
              };
              word_is = refl;
              letters_is = omega (arith, long);
            }

        new_is : take o (held_word area h) ++ ((b ∷ take (get_or cells from 0) (drop (from + 1) cells))
            ++ drop (o + (1 + get_or cells to 0)) (held_word area h))
            ≡ new_word area cells swap
        unfolding new_word
        new_is =
            let few : get_or cells from 0 ≡ (1 + get_or cells from 0) - 1 = omega arith in
            let after : drop (o + (1 + get_or cells to 0)) (held_word area h)
            ≡ take (h.letters - (o + (1 + get_or cells to 0))) (drop (h.word + (o + (1 + get_or cells to 0))) area) =
            sym (take_all (h.letters - (o + (1 + get_or cells to 0))) (drop (o + (1 + get_or cells to 0)) (held_word area h))
            (omega (arith, length-drop (o + (1 + get_or cells to 0)) (held_word area h), held_long)))
            ∙ sym (word_part area h word_inside (o + (1 + get_or cells to 0)) (h.letters - (o + (1 + get_or cells to 0))) (omega (arith, long))) in
            ap₂ (λ l r. l ++ r) (take-take o h.letters (drop h.word area) (omega arith))
            (ap₂ (λ n r. (b ∷ take n (drop (from + 1) cells)) ++ r) few after)

        -- what the entry makes of the word
        pub swap_applied : applied g.table g.word (entry_at o a b) ≡ some (new_word area cells swap)
        swap_applied =
            ap (λ w. applied g.table w (entry_at o a b)) (sym held_is)
            ∙ (fit_makes g.table (held_word area h) (entry_at o a b) apart cells g.of.stands ra rb to et defined from ef (held_word area h) o
            placed whole there ∙ ap some new_is)

-- letters of a table are letters that a table can have, and their cells are there
pub sixteen : {cells : List ℕ} {size : ℕ} (g : Work cells size) (a : ℕ) → InRange g.table.size a → InRange most_size a
sixteen g a r = record { low = r.low; high = omega (arith, r.high, g.of.stands.few) }

pub in_table : {cells : List ℕ} {size : ℕ} (g : Work cells size) (b : ℕ) → InRange size b → InRange g.table.size b
in_table g b r = subst (λ n. InRange n b) (sym g.of.sized) r

pub cell_inside : (cells : List ℕ) (a b to : ℕ) → length cells ≡ cell_bytes → InRange most_size a → InRange most_size b → to ≡ cell_at a b → to < length cells
cell_inside cells a b to full ra rb e = omega (arith, full, ra.low, ra.high, rb.low, rb.high, e)
