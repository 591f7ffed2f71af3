-- A letter that was taken off meets the first letter of the rest, in the workspace and the answer area.
use mathlib.Core.Path.{◌≡◌, refl, sym, ap, ap₂, subst, ◌∙◌}
use mathlib.Core.List.{List, [], ◌∷◌, ◌++◌, map}
use Prim.Native.Nat.{ℕ, ◌+◌, ◌-◌, ◌^◌, ◌≤◌, ◌<◌}
use native.Mathlib.Omega.{arith}
use lib.ListN.{length, take, get_or, length-append, length-map}
use Rattle.model.specs.Word.{Positive, positive, negative}
use Rattle.model.specs.Presentation.{complement, complete}
use Rattle.model.specs.Equivalence.{Entry}
use Rattle.model.specs.Images.{offset_width, entry_bits, entry_position, most_size}
use Rattle.model.proofs.Words.{positive_append}
use Rattle.model.proofs.Complete.{complete_named}
use Rattle.engine.specs.Gap.{letters}
use Rattle.cells.specs.Layout.{cell_at, cell_length}
use Rattle.model.specs.Range.{InRange, Lettered}
use Rattle.cells.proofs.Rules.{cell_word, WordAt}
use Rattle.engine.proofs.Lettering.{lettered_end}
use Rattle.chain_listing.specs.declared.moves.Progress.{Progress}
use Rattle.chain_listing.specs.Faces.{Face, slot_of, passed_of, Stacked}
use Rattle.chain_listing.specs.Layout.{Layout}
use Rattle.entries.specs.Entry.{EntryInside}
use Rattle.bits.specs.Fields.{Appended}
use Rattle.chain_listing.specs.Course.{Task, Fixed, Course, Situation}
use Rattle.chain_listing.proofs.Ends.{relations_within}
use Rattle.chain_listing.proofs.Marks.{marked, marked_done, passed_marked, slots_marked, length_marked}
use Rattle.chain_listing.proofs.Courses.{led_weight, length_weight, met, met_equal, made, met_different, never_empty}
use Rattle.bits.proofs.Appending.{appended_as}
use Rattle.chain_listing.proofs.Layouts.{slot_fits, pushed}
use Rattle.chain_listing.proofs.Rests.{First, first_letter}

-- WHAT IS SETTLED

module _ {t : Task} {cells : List ℕ} {size total : ℕ} (h : Fixed t cells size total) where
  pub size_some : 1 ≤ size
  size_some = omega (arith, h.stands.some, h.size_is)

  pub size_few : size ≤ most_size
  size_few = omega (arith, h.stands.few, h.size_is)

  -- one of the size's letters is one of sixteen, and a cell of two such lies inside
  pub wide : {a : ℕ} → InRange size a → InRange most_size a
  wide r = record { low = r.low; high = omega (arith, r.high, size_few) }

  pub sized : {a : ℕ} → InRange t.table.size a → InRange size a
  sized r = record { low = r.low; high = omega (arith, r.high, h.size_is) }

  unsized : {a : ℕ} → InRange size a → InRange t.table.size a
  unsized r = record { low = r.low; high = omega (arith, r.high, h.size_is) }

  pub cell_inside : {a b : ℕ} → InRange size a → InRange size b → cell_at a b + cell_length ≤ length cells
  cell_inside {a} {b} ra rb = omega (arith, h.stands.full, (wide ra).high, (wide rb).high)

  pub cell_of : {a b : ℕ} {x y : Positive} → InRange size a → InRange size b → complete t.table a b ≡ complement x y
      → WordAt cells (cell_at a b) t.table.size x
  cell_of {a} {b} {x} {y} ra rb e = cell_word cells t.table h.stands a b (unsized ra) (unsized rb) x y e

  -- a slot of the image lies inside the answer area
  pub slot_in : {answer : List ℕ} → length answer ≡ length t.area → (index : ℕ) → index < total → EntryInside size index answer
  slot_in {answer} e index i =
      record {
        some = size_some;
        few = size_few;
        low = omega (arith, h.few);
        inside = slot_fits size total answer (rw e h.enough) index i;
      }

  middle_named : (n : ℕ) (done : Positive) (b : ℕ) (left : Positive) → Lettered n (positive (done ++ (b ∷ left))) → InRange n b
  middle_named n done b left l = (lettered_end n (positive done) (positive (b ∷ left)) (subst (Lettered n) (positive_append done (b ∷ left)) l)).0

  -- the letter that was taken off is one of the table's
  pub taken_named : (b : ℕ) (faces : List Face) (done left : Positive) → Stacked t.table t.second (b ∷ []) faces done left → InRange size b
  taken_named b [] done left e = middle_named size done b left (subst (λ w. Lettered size (positive w)) (sym e) h.named)
  taken_named b (f ∷ fs) done left e =
      let n = complete_named t.table e.0.differ e.0.rule in
      let ra : InRange size f.a = sized (record { low = n.0.low; high = n.0.high }) in
      let rb : InRange size f.b = sized (record { low = n.1.low; high = n.1.high }) in
      sized (middle_named t.table.size f.done b f.left (cell_of ra rb e.0.rule).lettered)

  -- the word that the entries lead to keeps the first word's weight
  pub passed_within : {taken rest done left : Positive} {faces : List Face} {entries : List Entry} → Course t size total taken rest faces done left entries
      → length (passed_of faces done) + length rest < 2 ^ offset_width
  passed_within {rest} {done} {faces} {entries} c =
      omega (
        arith,
        h.short,
        led_weight t.table h.even t.first entries (passed_of faces done ++ rest) c.leads,
        length_weight t.table (passed_of faces done ++ rest),
        length-append (passed_of faces done) rest,
      )

-- THE FIRST LETTER OF THE REST

record Facing (t : Task) (size total b : ℕ) (faces : List Face) (done left : Positive) (entries : List Entry) (bytes : List ℕ) (end : ℕ) : Type 0 where
  a : ℕ
  rest : Positive
  course : Course t size total (b ∷ []) (a ∷ rest) faces done left entries
  first : First bytes end a rest

faces_first : {t : Task} {size total b : ℕ} {faces : List Face} {done left : Positive} {entries : List Entry} (bytes : List ℕ) (end : ℕ) (rest : Positive)
    → Course t size total (b ∷ []) rest faces done left entries → end ≤ length bytes → letters (take end bytes) ≡ negative rest
    → Facing t size total b faces done left entries bytes end
faces_first bytes end [] c i h = never_empty c
faces_first bytes end (a ∷ rest) c i h = record { a = a; rest = rest; course = c; first = first_letter bytes end a rest i h }

module _ {t : Task} {cells : List ℕ} {size total b : ℕ} {bytes answer : List ℕ} {at : Progress} (s : Situation t cells size total (b ∷ []) bytes answer at)
  where
    facing : Facing t size total b s.faces s.done s.left s.entries bytes at.left
    facing = faces_first bytes at.left s.rest s.course (omega (arith, s.held.ordered, s.held.inside)) s.held.rest_held

    -- its number, as the workspace has it
    abbrev pub meeting : ℕ
    meeting = get_or bytes (at.left - 1) 0 - 128

    meeting_is : facing.a ≡ meeting
    meeting_is = omega (arith, facing.first.byte)

    pub byte_back : 128 ≤ get_or bytes (at.left - 1) 0
    byte_back = omega (arith, facing.first.byte)

    pub left_some : 1 ≤ at.left
    left_some = facing.first.some

    pub passed_small : at.passed < 2 ^ offset_width
    passed_small = omega (arith, s.held.passed, passed_within s.settled s.course)

    pub a_here : InRange size meeting
    a_here = subst (InRange size) meeting_is facing.course.named.0

    pub b_here : InRange size b
    b_here = taken_named s.settled b s.faces s.done s.left s.course.stacked

    pub met_equal_here : meeting ≡ b
        → Situation t cells size total [] bytes answer
        (record { left = at.left - 1; right = at.right; passed = at.passed + 1; emitted = at.emitted; stacked = at.stacked })
    met_equal_here e =
        record {
          settled = s.settled;
          rest = facing.rest;
          faces = marked b s.faces;
          done = marked_done b s.faces s.done;
          left = s.left;
          entries = s.entries;
          course = met_equal facing.course (meeting_is ∙ e);
          held =
              record {
                wide = s.held.wide;
                ordered = omega (arith, s.held.ordered);
                inside = s.held.inside;
                rest_held = facing.first.fewer;
                left_held = s.held.left_held;
                passed =
                    omega (arith, s.held.passed, ap length (passed_marked b s.faces s.done), length-append (passed_of s.faces s.done) (b ∷ []));
                emitted = s.held.emitted;
                stacked = s.held.stacked ∙ sym (length_marked b s.faces);
                layout = subst (λ l. Layout size total t.area s.entries l answer) (sym (slots_marked b s.faces)) s.held.layout;
              };
        }

    module _ (differ : meeting ≡ b → ⊥) where
      apart : facing.a ≡ b → ⊥
      apart e = differ (sym meeting_is ∙ e)

      pub slots_left : at.stacked + 1 ≤ total
      slots_left = omega (arith, s.held.stacked, relations_within t total (met_different facing.course apart).running)

      pub slot_here : EntryInside size (total - (at.stacked + 1)) answer
      slot_here = slot_in s.settled s.held.layout.same_length (total - (at.stacked + 1)) (omega (arith, slots_left))

      letters_of : (to : ℕ) → to ≡ cell_at meeting b → get_or cells to 0 ≡ length (met facing.course).x
      letters_of to e =
          ap (λ i. get_or cells i 0) (e ∙ ap (λ a. cell_at a b) (sym meeting_is))
          ∙ (cell_of s.settled facing.course.named.0 b_here (met facing.course).rule).count

      pub met_different_here : (to : ℕ) → to ≡ cell_at meeting b → {after : List ℕ}
          → Appended answer (entry_position size (total - (at.stacked + 1))) (entry_bits size (record { offset = get_or cells to 0; a = meeting; b = b })) after
          → Situation t cells size total [] bytes after
          (record { left = at.left - 1; right = at.right; passed = at.passed + 1; emitted = at.emitted; stacked = at.stacked + 1 })
      met_different_here to e {after} p =
          let many : length (map slot_of s.faces) ≡ length s.faces = length-map s.faces slot_of in
          record {
            settled = s.settled;
            rest = facing.rest;
            faces = made facing.course ∷ s.faces;
            done = s.done;
            left = s.left;
            entries = s.entries;
            course = met_different facing.course apart;
            held =
                record {
                  wide = s.held.wide;
                  ordered = omega (arith, s.held.ordered);
                  inside = s.held.inside;
                  rest_held = facing.first.fewer;
                  left_held = s.held.left_held;
                  passed = omega (arith, s.held.passed, length-append (passed_of s.faces s.done) (facing.a ∷ []));
                  emitted = s.held.emitted;
                  stacked = omega (arith, s.held.stacked);
                  layout =
                      pushed size total t.area s.entries s.held.layout
                      (omega (arith, slots_left, s.held.stacked, relations_within t total (met_different facing.course apart).running))
                      (slot_of (made facing.course)) (total - (at.stacked + 1)) (omega (arith, slots_left, s.held.stacked))
                      (appended_as refl
                      (ap₂ (λ o a. entry_bits size (record { offset = o; a = a; b = b })) (letters_of to e) (sym meeting_is)) p);
                };
          }
