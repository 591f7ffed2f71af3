-- The top face: its slot is read, and its next letter is taken off.
use mathlib.Core.Path.{◌≡◌, refl, sym, ap, ap₂, subst, ◌∙◌}
use mathlib.Core.List.{List, [], ◌∷◌, ◌++◌, map}
use Prim.Native.Nat.{ℕ, ◌+◌, ◌-◌, ◌≤◌, ◌<◌}
use native.Mathlib.Omega.{arith}
use lib.ListN.{length, drop, get_or, length-append, length-map}
use lib.Seq.{get_or-take, get_or-drop, get_or-append_seam}
use Rattle.model.specs.Word.{Positive}
use Rattle.model.specs.Equivalence.{Entry}
use Rattle.model.specs.Images.{entry_bits, entry_position, most_size, most_length}
use Rattle.cells.specs.Layout.{cell_at, cell_length}
use Rattle.model.specs.Range.{InRange, EntryInRange}
use Rattle.cells.proofs.Rules.{WordAt}
use Rattle.chain_listing.specs.declared.moves.Progress.{Progress}
use Rattle.entries.specs.declared.entry.ChainEntry.{ChainEntry}
use Rattle.chain_listing.specs.Faces.{Face, slot_of}
use Rattle.entries.specs.Entry.{EntryInside, Same, ReadsEntry}
use Rattle.bits.specs.Fields.{Appended}
use Rattle.chain_listing.specs.Course.{Task, Course, Situation, TopDone}
use Rattle.chain_listing.proofs.Ends.{relations_within}
use Rattle.chain_listing.proofs.Courses.{a_named, b_named, to_cell, leaving, taken_of_face}
use Rattle.chain_listing.proofs.Parts.{empty_of}
use Rattle.bits.proofs.Appending.{appended_as}
use Rattle.chain_listing.proofs.Layouts.{top_read, changed}
use Rattle.chain_listing.proofs.Restated.{course_of, layout_of, passed_of_lem, stacked_of}
use Rattle.chain_listing.proofs.Meeting.{wide, sized, cell_inside, slot_in}

record Top (faces : List Face) : Type 0 where
  face : Face
  others : List Face
  top : faces ≡ face ∷ others

top_of : (faces : List Face) → 1 ≤ length faces → Top faces
top_of [] h = absurd (omega arith)
top_of (f ∷ fs) h = record { face = f; others = fs; top = refl }

-- a word's letter, where a word of `done` letters comes before it
record At (cells : List ℕ) (place : ℕ) (left : Positive) : Type 0 where
  others : Positive
  is : left ≡ get_or cells place 0 ∷ others

letter_at : {cells : List ℕ} {at n : ℕ} (done left : Positive) → WordAt cells at n (done ++ left) → 1 ≤ length left → At cells (at + 1 + length done) left
letter_at done [] w h = absurd (omega arith)
letter_at {cells} {at} done (b ∷ left) w h =
    let long : length done < length (done ++ (b ∷ left)) = omega (arith, length-append done (b ∷ left)) in
    let e : get_or cells (at + 1 + length done) 0 ≡ b =
    sym (get_or-drop (at + 1) cells (length done) 0)
    ∙ (sym (get_or-take (length (done ++ (b ∷ left))) (drop (at + 1) cells) (length done) 0 long)
    ∙ (ap (λ l. get_or l (length done) 0) w.word ∙ get_or-append_seam done b left 0)) in
    record { others = left; is = ap (λ x. x ∷ left) (sym e) }

place_is : (p to d x c : ℕ) → to ≡ p → x ≡ d + c → p + 1 + d ≡ to + 1 + x - c
place_is p to d x c e f = omega arith

some_left : (m n : ℕ) → (m ≡ 0 → ⊥) → m ≡ n → 1 ≤ n
some_left m n h e = omega arith

module _ {t : Task} {cells : List ℕ} {size total : ℕ} {bytes answer : List ℕ} {at : Progress} (s : Situation t cells size total [] bytes answer at)
    (some : 1 ≤ at.stacked) where
  top : Top s.faces
  top = top_of s.faces (omega (arith, s.held.stacked))

  abbrev f : Face
  f = top.face

  course : Course t size total [] s.rest (top.face ∷ top.others) s.done s.left s.entries
  course = course_of s top.top

  pub stacked_within : at.stacked ≤ total
  stacked_within = omega (arith, s.held.stacked, relations_within t total s.course.running)

  pub slot_top : EntryInside size (total - at.stacked) answer
  slot_top = slot_in s.settled s.held.layout.same_length (total - at.stacked) (omega (arith, stacked_within))

  here : total - at.stacked + (length (map slot_of top.others) + 1) ≡ total
  here = omega (arith, stacked_within, stacked_of s top.top, length-map top.others slot_of)

  word : WordAt cells (cell_at f.a f.b) t.table.size (f.done ++ f.left)
  word = to_cell s.settled course

  slot_holds : EntryInRange size (slot_of f)
  slot_holds =
      record {
        offset_small = omega (arith, word.short, length-append f.done f.left);
        a_names = sized s.settled (a_named s.settled course);
        b_names = sized s.settled (b_named s.settled course);
      }

  module _ (r : ChainEntry) (h : ReadsEntry size (total - at.stacked) answer r) where
    same : Same (slot_of f) r
    same = h (slot_of f) _ slot_holds (top_read size total t.area s.entries (layout_of s top.top) (total - at.stacked) here)

    pub top_done : r.offset ≡ 0 → TopDone s.faces r.a r.b
    top_done e =
        record {
          face = f;
          others = top.others;
          top = top.top;
          none_left = empty_of f.left (sym same.offset ∙ e);
          is_a = sym same.a;
          is_b = sym same.b;
        }

    pub top_a : InRange size r.a
    top_a = subst (InRange size) (sym same.a) slot_holds.a_names

    pub top_b : InRange size r.b
    top_b = subst (InRange size) (sym same.b) slot_holds.b_names

    pub pair_top : InRange most_size r.a × InRange most_size r.b
    pair_top = (wide s.settled top_a, wide s.settled top_b)

    pub top_inside : cell_at r.a r.b + cell_length ≤ length cells
    top_inside = cell_inside s.settled top_a top_b

    module _ (to : ℕ) (et : to ≡ cell_at r.a r.b) where
      to_is : to ≡ cell_at f.a f.b
      to_is = et ∙ ap₂ (λ i j. cell_at i j) same.a same.b

      count_is : get_or cells to 0 ≡ length f.done + r.offset
      count_is =
          ap (λ i. get_or cells i 0) to_is ∙ (word.count ∙ (length-append f.done f.left ∙ ap (λ i. length f.done + i) (sym same.offset)))

      pub count_within : r.offset ≤ get_or cells to 0
      count_within = omega (arith, count_is)

      pub count_short : get_or cells to 0 ≤ most_length
      count_short = omega (arith, count_is, same.offset, word.short, length-append f.done f.left)

      module _ (more : r.offset ≡ 0 → ⊥) where
        found : At cells (to + 1 + get_or cells to 0 - r.offset) f.left
        found =
            subst (λ i. At cells i f.left) (place_is (cell_at f.a f.b) to (length f.done) (get_or cells to 0) r.offset to_is count_is)
            (letter_at f.done f.left word (some_left r.offset (length f.left) more same.offset))

        pub taken_here : {after : List ℕ}
            → Appended answer (entry_position size (total - at.stacked)) (entry_bits size (record { offset = r.offset - 1; a = r.a; b = r.b })) after
            → Situation t cells size total (get_or cells (to + 1 + get_or cells to 0 - r.offset) 0 ∷ []) bytes after at
        taken_here {after} p =
            let fewer : r.offset - 1 ≡ length found.others = omega (arith, same.offset, ap length found.is) in
            record {
              settled = s.settled;
              rest = s.rest;
              faces = leaving found.others f ∷ top.others;
              done = s.done;
              left = s.left;
              entries = s.entries;
              course = taken_of_face found.is course;
              held =
                  record {
                    wide = s.held.wide;
                    ordered = s.held.ordered;
                    inside = s.held.inside;
                    rest_held = s.held.rest_held;
                    left_held = s.held.left_held;
                    passed = passed_of_lem s top.top;
                    emitted = s.held.emitted;
                    stacked = stacked_of s top.top;
                    layout =
                        changed size total t.area s.entries (layout_of s top.top) (total - at.stacked) here (slot_of (leaving found.others f))
                        (appended_as refl
                        (ap₂ (λ o g. entry_bits size (record { offset = o; a = g.a; b = g.b })) fewer same_pair) p);
                  };
            }
          where
            same_pair : ◌≡◌ {A = Entry} (record { offset = 0; a = r.a; b = r.b }) (record { offset = 0; a = f.a; b = f.b })
            same_pair = ap₂ (λ i j. record { offset = 0; a = i; b = j }) same.a same.b
