-- The top face is done: its entry takes a slot, and C(b,a) goes to the front of the rest, in the workspace and the answer area.
use mathlib.Core.Path.{◌≡◌, sym, ap, ap₂, subst, ◌∙◌}
use mathlib.Core.List.{List, [], ◌∷◌, ◌++◌}
use Prim.Native.Nat.{ℕ, suc, ◌+◌, ◌-◌, ◌^◌, ◌≤◌, ◌<◌}
use native.Mathlib.Omega.{arith}
use lib.ListN.{length, take, get_or, length-append}
use Rattle.model.specs.Word.{Positive, positive, negative, inverse}
use Rattle.model.specs.Equivalence.{Entry}
use Rattle.model.specs.Images.{offset_width, entry_bits, entry_position, most_size, most_length}
use Rattle.engine.specs.Gap.{letters}
use Rattle.engine.specs.Turn.{CellFits, cell_letters, Pushed}
use Rattle.cells.specs.Layout.{Letters, cell_at}
use Rattle.model.specs.Range.{InRange}
use Rattle.engine.proofs.Lettering.{length_positive, length_negative}
use Rattle.engine.proofs.Stepping.{cell_letters_lem}
use Rattle.chain_listing.specs.declared.moves.Progress.{Progress}
use Rattle.chain_listing.specs.Faces.{Face, below, passed_of}
use Rattle.chain_listing.specs.Layout.{Layout}
use Rattle.entries.specs.Entry.{EntryInside}
use Rattle.bits.specs.Fields.{Appended}
use Rattle.chain_listing.specs.Course.{Task, Course, Situation, TopDone, FacePassed}
use Rattle.chain_listing.proofs.Ends.{relations_within}
use Rattle.chain_listing.proofs.Marks.{marked, marked_done, passed_marked, slots_marked, length_marked}
use Rattle.chain_listing.proofs.Courses.{a_named, b_named, to_cell, from_cell, passed_short, listed, all_done, emitted}
use Rattle.bits.proofs.Appending.{appended_as}
use Rattle.chain_listing.proofs.Layouts.{given_up}
use Rattle.chain_listing.proofs.Rests.{held_length, left_length, pushed_rest, pushed_left}
use Rattle.chain_listing.proofs.Restated.{course_of, layout_of, passed_of_lem, stacked_of}
use Rattle.chain_listing.proofs.Meeting.{wide, sized, cell_inside, slot_in}

below_long : (faces : List Face) (left : Positive) → length left ≤ length (below faces left)
below_long [] left = omega (arith, length_positive left)
below_long (f ∷ fs) left =
    omega (
      arith,
      below_long fs left,
      length-append (positive f.left) (negative f.other ++ below fs left),
      length-append (negative f.other) (below fs left),
    )

module _ {t : Task} {cells : List ℕ} {size total : ℕ} {bytes answer : List ℕ} {at : Progress} (s : Situation t cells size total [] bytes answer at) {a b : ℕ}
    (top : TopDone s.faces a b) where
  abbrev f : Face
  f = top.face

  course : Course t size total [] s.rest (top.face ∷ top.others) s.done s.left s.entries
  course = course_of s top.top

  face_a : InRange size f.a
  face_a = sized s.settled (a_named s.settled course)

  face_b : InRange size f.b
  face_b = sized s.settled (b_named s.settled course)

  pub a_top : InRange size a
  a_top = subst (InRange size) top.is_a face_a

  pub b_top : InRange size b
  b_top = subst (InRange size) top.is_b face_b

  pair_a : InRange most_size a
  pair_a = wide s.settled a_top

  pair_b : InRange most_size b
  pair_b = wide s.settled b_top

  to_is : cell_at a b ≡ cell_at f.a f.b
  to_is = ap₂ (λ i j. cell_at i j) (sym top.is_a) (sym top.is_b)

  from_is : cell_at b a ≡ cell_at f.b f.a
  from_is = ap₂ (λ i j. cell_at i j) (sym top.is_b) (sym top.is_a)

  to_count : get_or cells (cell_at a b) 0 ≡ length f.done
  to_count = ap (λ i. get_or cells i 0) to_is ∙ ((to_cell s.settled course).count ∙ ap length (all_done s.settled course top.none_left))

  from_count : get_or cells (cell_at b a) 0 ≡ length f.other
  from_count = ap (λ i. get_or cells i 0) from_is ∙ (from_cell s.settled course).count

  pub from_short : get_or cells (cell_at b a) 0 ≤ most_length
  from_short = omega (arith, from_count, (from_cell s.settled course).short)

  passed_is : at.passed ≡ length (passed_of top.others s.done) + suc (length f.done)
  passed_is = passed_of_lem s top.top ∙ length-append (passed_of top.others s.done) (f.a ∷ f.done)

  pub passed_few : at.passed < 2 ^ offset_width
  passed_few = omega (arith, passed_of_lem s top.top, passed_short s.settled course)

  pub slots_over : at.emitted < total
  slots_over = omega (arith, s.held.emitted, relations_within t total course.running)

  -- C(b,a) fits between the rest and what is left of the second word
  room_here : at.left + length f.other ≤ at.right
  room_here =
      let w = length-append (negative s.rest) (positive f.left ++ (negative f.other ++ below top.others s.left)) in
      let x = length-append (positive f.left) (negative f.other ++ below top.others s.left) in
      let y = length-append (negative f.other) (below top.others s.left) in
      omega (
        arith,
        course.running.fits,
        w,
        x,
        y,
        length_negative s.rest,
        length_negative f.other,
        below_long top.others s.left,
        held_length bytes at.left s.rest (omega (arith, s.held.ordered, s.held.inside)) s.held.rest_held,
        left_length bytes at.right s.left s.held.left_held,
        s.held.wide,
        s.held.inside,
      )

  room : at.left + get_or cells (cell_at b a) 0 ≤ at.right
  room = omega (arith, room_here, from_count)

  pub face_passed : FacePassed cells at.passed a b
  face_passed =
      record { letters = (pair_a, pair_b); inside = omega (arith, cell_inside s.settled a_top b_top); long = omega (arith, to_count, passed_is) }

  pub rest_fits : Letters b a × CellFits cells (cell_at b a) bytes (at.left + get_or cells (cell_at b a) 0)
  rest_fits = (
    (pair_b, pair_a),
    record { held = omega (arith, cell_inside s.settled b_top a_top, from_short); room = omega arith; inside = omega (arith, room, s.held.inside) },
  )

  module _ (offset end : ℕ) (eo : offset ≡ at.passed - get_or cells (cell_at a b) 0 - 1) (ee : end ≡ at.left + get_or cells (cell_at b a) 0) where
    offset_is : offset ≡ length (passed_of top.others s.done)
    offset_is = omega (arith, passed_is, to_count)

    pub emitted_here : {after pushed : List ℕ} → Appended answer (entry_position size at.emitted) (entry_bits size (record { offset = offset; a = a; b = b }))
        after
        → Pushed (inverse (cell_letters cells (cell_at b a))) bytes end (get_or cells (cell_at b a) 0) pushed
        → Situation t cells size total [] pushed after
        (record { left = end; right = at.right; passed = offset + 1; emitted = at.emitted + 1; stacked = at.stacked - 1 })
    emitted_here {after} {pushed} p q' =
        let count = get_or cells (cell_at b a) 0 in
        let q = subst (λ i. Pushed (inverse (cell_letters cells (cell_at b a))) bytes i count pushed) ee q' in
        let word : inverse (cell_letters cells (cell_at b a)) ≡ negative f.other =
        ap inverse (cell_letters_lem s.settled.stands.few (from_cell s.settled course) (cell_at b a + 1) count (ap (λ i. i + 1) from_is) from_count) in
        record {
          settled = s.settled;
          rest = f.other ++ s.rest;
          faces = marked f.b top.others;
          done = marked_done f.b top.others s.done;
          left = s.left;
          entries = s.entries ++ (listed s.settled course ∷ []);
          course = emitted s.settled course top.none_left;
          held =
              record {
                wide = q.same_length ∙ s.held.wide;
                ordered = omega (arith, ee, room);
                inside = omega (arith, q.same_length, s.held.inside);
                rest_held =
                    ap (λ i. letters (take i pushed)) ee ∙ pushed_rest bytes pushed at.left count s.rest f.other _ word from_count
                    (omega (arith, s.held.ordered, s.held.inside)) s.held.rest_held q;
                left_held =
                    pushed_left bytes pushed at.left count s.rest f.other _ word from_count
                    (omega (arith, s.held.ordered, s.held.inside)) s.held.rest_held q at.right room
                    ∙ s.held.left_held;
                passed =
                    omega (
                      arith,
                      offset_is,
                      ap length (passed_marked f.b top.others s.done),
                      length-append (passed_of top.others s.done) (f.b ∷ []),
                    );
                emitted = omega (arith, s.held.emitted, length-append s.entries (listed s.settled course ∷ []));
                stacked = omega (arith, stacked_of s top.top, length_marked f.b top.others);
                layout =
                    subst (λ l. Layout size total t.area (s.entries ++ (listed s.settled course ∷ [])) l after) (sym (slots_marked f.b top.others))
                    (given_up size total t.area s.entries (layout_of s top.top) (listed s.settled course)
                    (appended_as (ap (entry_position size) s.held.emitted)
                    (ap₂ (λ o g. entry_bits size (record { offset = o; a = g.a; b = g.b })) offset_is same_pair) p));
              };
        }
      where
        same_pair : ◌≡◌ {A = Entry} (record { offset = 0; a = a; b = b }) (record { offset = 0; a = f.a; b = f.b })
        same_pair = ap₂ (λ i j. record { offset = 0; a = i; b = j }) (sym top.is_a) (sym top.is_b)
