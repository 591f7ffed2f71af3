-- The letters of the second word, from the first to the end of the walk.
use mathlib.Core.Path.{◌≡◌, refl, sym, ap, subst, ◌∙◌}
use mathlib.Core.List.{List, [], ◌∷◌, ◌++◌}
use Prim.Native.Nat.{ℕ, ◌+◌, ◌≤◌, ◌<◌}
use native.Mathlib.Omega.{arith}
use lib.ListN.{length, take, drop, get_or, length-append, length-drop}
use lib.Seq.{take_at, drop_at, length-take-le}
use Rattle.model.specs.Word.{Positive, positive, negative}
use Rattle.model.specs.Presentation.{Presentation}
use Rattle.model.specs.Images.{chain_image}
use Rattle.model.specs.Services.{chain_bytes}
use Rattle.model.specs.Areas.{begins}
use Rattle.engine.specs.Gap.{letters, word_at}
use Rattle.engine.proofs.Letters.{letters_append, length_letters}
use Rattle.engine.proofs.Lettering.{length_negative}
use Rattle.engine.proofs.Runs.{run_begun}
use Rattle.model.specs.Range.{AreBytes, Lettered}
use Rattle.chain_listing.specs.declared.moves.Progress.{Progress}
use Rattle.chain_listing.specs.Layout.{Layout}
use Rattle.chain_listing.specs.Course.{Task, Fixed, Course, Situation, Complete}
use Rattle.chain_listing.specs.Listing.{Compared, Chained}
use Rattle.chain_listing.proofs.Parts.{empty_of}
use Rattle.chain_listing.proofs.Restated.{course_of, layout_of, passed_of_lem}
use Rattle.chain_listing.proofs.Courses.{over, taken_of_second, entries_fit}
use Rattle.chain_listing.proofs.Rests.{next_letter, none_next}
use Rattle.chain_listing.proofs.Framing.{framed, image_long}

module _ {t : Task} {cells : List ℕ} {size total : ℕ} {bytes answer : List ℕ} {at : Progress} (s : Situation t cells size total [] bytes answer at)
    (bottom : at.stacked ≤ 0) where
  none_stacked : s.faces ≡ []
  none_stacked = empty_of s.faces (omega (arith, s.held.stacked))

  course : (left : Positive) → s.left ≡ left → Course t size total [] s.rest [] s.done left s.entries
  course left e = subst (λ l. Course t size total [] s.rest [] s.done l s.entries) e (course_of s none_stacked)

  -- the next letter of the second word
  pub taken_second : at.right < length bytes
      → Situation t cells size total (get_or bytes at.right 0 ∷ []) bytes answer
      (record { left = at.left; right = at.right + 1; passed = at.passed; emitted = at.emitted; stacked = at.stacked })
  taken_second more =
      let n = next_letter bytes at.right s.left more s.held.left_held in
      record {
        settled = s.settled;
        rest = s.rest;
        faces = [];
        done = s.done;
        left = n.others;
        entries = s.entries;
        course = taken_of_second (course (get_or bytes at.right 0 ∷ n.others) n.is);
        held =
            record {
              wide = s.held.wide;
              ordered = omega (arith, s.held.ordered);
              inside = omega arith;
              rest_held = s.held.rest_held;
              left_held = n.held;
              passed = passed_of_lem s none_stacked;
              emitted = s.held.emitted;
              stacked = omega arith;
              layout = layout_of s none_stacked;
            };
      }

  pub completed : at.right ≡ length bytes → Complete t size total answer
  completed end =
      let o = over (course [] (none_next bytes at.right s.left end s.held.left_held)) in
      record { entries = s.entries; leads = o.leads; number = o.number; layout = layout_of s none_stacked }

-- the loop of a walk: every task that began goes on
pub record Walk (cells : List ℕ) (size total : ℕ) (bytes₀ answer₀ : List ℕ) (at₀ : Progress) (bytes answer : List ℕ) (at : Progress) : Type 0 where
  pub same_bytes : length bytes ≡ length bytes₀
  pub same_answer : length answer ≡ length answer₀
  pub goes : (t : Task) → Situation t cells size total [] bytes₀ answer₀ at₀ → Situation t cells size total [] bytes answer at

-- THE WHOLE

module _ {cells : List ℕ} {size : ℕ} {bytes : List ℕ} {left right relations output : ℕ} {T : Presentation} {u v : Positive} {steps : ℕ}
    (h : Compared cells size bytes left right relations output T u v steps) (small : relations < 65536) (area : List ℕ) (is : length area ≡ output) where
  abbrev pub task : Task
  task = record { table = T; first = u; second = v; steps = steps; room = length bytes; area = area }

  parts : letters (take left bytes) ++ letters (drop right bytes) ≡ negative u ++ positive v
  unfolding word_at
  parts = sym (letters_append (take left bytes) (drop right bytes)) ∙ h.word

  first_long : length (letters (take left bytes)) ≡ left
  first_long = length_letters (take left bytes) ∙ length-take-le left bytes (omega (arith, h.ordered, h.inside))

  inverse_long : length (negative u) ≡ left
  inverse_long = length_negative u ∙ h.first_length

  word_long : length (negative u ++ positive v) ≤ length bytes
  word_long =
      omega (
        arith,
        ap length parts,
        length-append (letters (take left bytes)) (letters (drop right bytes)),
        first_long,
        length_letters (drop right bytes),
        length-drop right bytes,
        h.ordered,
        h.inside,
      )

  settled : Fixed task cells size relations
  settled =
      record {
        stands = h.stands;
        size_is = h.size_is;
        even = h.even;
        short = h.short;
        named = subst (λ n. Lettered n (positive v)) (sym h.size_is) h.second_named;
        few = small;
        enough = rw is h.enough;
      }

  pub begun : {answer : List ℕ} → Layout size relations area [] [] answer
      → Situation task cells size relations [] bytes answer (record { left = left; right = right; passed = 0; emitted = 0; stacked = 0 })
  begun l =
      record {
        settled = settled;
        rest = u;
        faces = [];
        done = [];
        left = v;
        entries = [];
        course =
            record {
              stacked = refl;
              running =
                  record {
                    budget = h.budget;
                    steps = 0;
                    fits = word_long;
                    finishes = sym (run_begun T h.budget (length bytes) (negative u ++ positive v) word_long) ∙ h.same;
                  };
              leads = refl;
              named = subst (λ n. Lettered n (positive u)) (sym h.size_is) h.first_named;
            };
        held =
            record {
              wide = refl;
              ordered = h.ordered;
              inside = h.inside;
              rest_held =
                  sym (take_at (letters (take left bytes)) (letters (drop right bytes)) left first_long)
                  ∙ (ap (take left) parts ∙ take_at (negative u) (positive v) left inverse_long);
              left_held =
                  sym (drop_at (letters (take left bytes)) (letters (drop right bytes)) left first_long)
                  ∙ (ap (drop left) parts ∙ drop_at (negative u) (positive v) left inverse_long);
              passed = refl;
              emitted = refl;
              stacked = refl;
              layout = l;
            };
      }

  pub chained : {answer : List ℕ} → AreBytes answer → AreBytes area → Complete task size relations answer → Chained T u v relations area answer
  chained {answer} ba bb c =
      record {
        entries = c.entries;
        leads = c.leads;
        counted = c.number;
        long =
            subst (λ n. length (chain_image n c.entries) ≡ chain_bytes n relations) h.size_is
            (image_long size relations area answer c.entries c.layout c.number settled.enough ba);
        written =
            subst (λ n. answer ≡ begins (chain_image n c.entries) area) h.size_is
            (framed size relations area answer c.entries c.layout c.number settled.enough ba bb);
        short = omega (arith, c.number);
        fit = entries_fit T h.even u c.entries v h.short c.leads;
      }
