-- The moves of a listing, on words alone: a letter is taken off, meets an equal or a different one, a face is done, and the end.
use mathlib.Core.Path.{◌≡◌, refl, sym, ap, ap₂, subst, ◌∙◌}
use mathlib.Core.List.{List, [], ◌∷◌, ◌++◌, append_assoc, append-nil}
use mathlib.Core.Option.{some}
use Prim.Native.Nat.{ℕ, ◌+◌, ◌^◌, ◌≤◌, ◌<◌}
use native.Mathlib.Omega.{arith}
use lib.ListN.{length, length-append}
use Rattle.model.specs.Word.{Word, Positive, positive, negative}
use Rattle.model.specs.Presentation.{Presentation, complement, swapped, complete, weight_of, weigh}
use Rattle.model.specs.Images.{offset_width}
use Rattle.model.specs.Equivalence.{Entry, applied, Leads}
use Rattle.model.proofs.Words.{negative_append, positive_append}
use Rattle.model.proofs.Complete.{complete_same, complete_turn, complete_named}
use Rattle.model.proofs.Equiv.{Swap, length_total}
use Rattle.model.proofs.Entries.{swap_applied, applied_applies, entry_inside}
use Rattle.model.proofs.Joining.{joined_weight}
use Rattle.model.specs.Range.{InRange, Lettered, All, EntryInRange}
use Rattle.cells.proofs.Rules.{cell_word, WordAt}
use Rattle.cells.specs.Layout.{cell_at}
use Rattle.engine.proofs.Lettering.{lettered_append}
use Rattle.engine.proofs.Progress.{count_equal, count_different}
use Rattle.chain_listing.specs.Faces.{Face, below, passed_of}
use Rattle.chain_listing.specs.Course.{Task, Even, Fixed, Running, Course}
use Rattle.chain_listing.proofs.Marks.{marked, marked_done, passed_marked, below_marked, length_marked, stacked_marked}
use Rattle.chain_listing.proofs.Ends.{Met, meets, some_rest, finishes}

-- one entry more
pub leads_more : (T : Presentation) (u : Positive) (es : List Entry) (v : Positive) (e : Entry) (w : Positive) → Leads T u es v → applied T v e ≡ some w
    → Leads T u (es ++ (e ∷ [])) w
leads_more T u [] v e w h a = (w, ap (λ x. applied T x e) h ∙ a, refl)
leads_more T u (f ∷ es) v e w h a = (h.0, h.1, leads_more T h.0 es v e w h.2 a)

-- WEIGHTS AND RANGES

pub led_weight : (T : Presentation) → Even T → (u : Positive) (es : List Entry) (v : Positive) → Leads T u es v → weigh T u ≡ weigh T v
led_weight T even u es v h = joined_weight T (weight_of T) even u v (es, h)

-- every letter weighs 1 or more
pub length_weight : (T : Presentation) (u : Positive) → length u ≤ weigh T u
length_weight T = length_total (weight_of T) (λ a. omega arith)

-- every entry of a chain fits its fields
pub entries_fit : (T : Presentation) → Even T → (u : Positive) (es : List Entry) (v : Positive) → weigh T u < 2 ^ offset_width → Leads T u es v
    → All (EntryInRange T.size) es
entries_fit T even u [] v short h = tt
entries_fit T even u (e ∷ es) v short h =
    let p = applied_applies T u e h.0 h.1 in
    let n = complete_named T p.differ p.swap.rule in
    let a : p.swap.a ≡ e.a = ap (λ x. x.a) p.same in
    let b : p.swap.b ≡ e.b = ap (λ x. x.b) p.same in
    let kept : weigh T u ≡ weigh T h.0 = led_weight T even u (e ∷ []) h.0 (h.0, h.1, refl) in (
      record {
        offset_small = omega (arith, entry_inside T u e h.0 h.1, length_weight T u);
        a_names = record { low = omega (arith, n.0.low, a); high = omega (arith, n.0.high, a) };
        b_names = record { low = omega (arith, n.1.low, b); high = omega (arith, n.1.high, b) };
      },
      entries_fit T even h.0 es v (omega arith) h.2,
    )

-- another way to write the word
pub running_as : {t : Task} {total : ℕ} {w w' : Word} {r r' : ℕ} → w ≡ w' → r ≡ r' → Running t total w r → Running t total w' r'
running_as e f h = rw (← e, ← f) h

-- the face with other letters left
abbrev pub leaving : Positive → Face → Face
leaving left f = record { a = f.a; b = f.b; done = f.done; left = left; other = f.other }

-- all is listed
pub record Over (t : Task) (total : ℕ) (entries : List Entry) : Type 0 where
  pub leads : Leads t.table t.first entries t.second
  pub number : length entries ≡ total

module _ {t : Task} {size total : ℕ} where
  -- A LETTER IS TAKEN OFF

  pub taken_of_second : {rest done left : Positive} {b : ℕ} {entries : List Entry} → Course t size total [] rest [] done (b ∷ left) entries
      → Course t size total (b ∷ []) rest [] done left entries
  taken_of_second c = record { stacked = c.stacked; running = c.running; leads = c.leads; named = c.named }

  pub taken_of_face : {rest done left : Positive} {b : ℕ} {l : Positive} {f : Face} {fs : List Face} {entries : List Entry} → f.left ≡ b ∷ l
      → Course t size total [] rest (f ∷ fs) done left entries → Course t size total (b ∷ []) rest (leaving l f ∷ fs) done left entries
  taken_of_face {rest} {left} {f} {fs} e c =
      record {
        stacked = (
          record { differ = c.stacked.0.differ; rule = c.stacked.0.rule ∙ ap (λ x. complement (f.done ++ x) f.other) e },
          c.stacked.1,
        );
        running = running_as (ap (λ x. negative rest ++ (positive x ++ (negative f.other ++ below fs left))) e) refl c.running;
        leads = c.leads;
        named = c.named;
      }

  -- IT MEETS THE FIRST LETTER OF THE REST

  module _ {a b : ℕ} {rest done left : Positive} {faces : List Face} {entries : List Entry}
      (c : Course t size total (b ∷ []) (a ∷ rest) faces done left entries) where
    abbrev relations : ℕ
    relations = length entries + length faces

    pub met : Met t total a b rest (below faces left) relations
    met = meets t total a b rest (below faces left) relations c.running

    pub met_equal : a ≡ b → Course t size total [] rest (marked b faces) (marked_done b faces done) left entries
    met_equal e =
        let rule = met.rule in
        let empty : complete t.table a b ≡ complement [] [] = rw (← e) (complete_same t.table a) in
        let x : met.x ≡ [] = cc in
        let y : met.y ≡ [] = cc in
        record {
          stacked = stacked_marked t.table t.second b faces done left c.stacked;
          running =
              running_as
              (ap₂ (λ x y. negative rest ++ (positive x ++ (negative y ++ below faces left))) x y
              ∙ ap (λ w. negative rest ++ w) (sym (below_marked b faces left)))
              (count_equal a b relations e ∙ ap (λ n. length entries + n) (sym (length_marked b faces)))
              met.running;
          leads =
              subst (λ w. Leads t.table t.first entries w)
              (ap (λ x. passed_of faces done ++ (x ∷ rest)) e
              ∙ (sym (append_assoc (passed_of faces done) (b ∷ []) rest) ∙ ap (λ w. w ++ rest) (sym (passed_marked b faces done))))
              c.leads;
          named = c.named.1;
        }

    -- the face that they make
    abbrev pub made : Face
    made = record { a = a; b = b; done = []; left = met.x; other = met.y }

    pub met_different : (a ≡ b → ⊥) → Course t size total [] rest (made ∷ faces) done left entries
    met_different d =
        record {
          stacked = (record { differ = d; rule = met.rule }, c.stacked);
          running = running_as refl (count_different a b relations d ∙ omega arith) met.running;
          leads = subst (λ w. Leads t.table t.first entries w) (sym (append_assoc (passed_of faces done) (a ∷ []) rest)) c.leads;
          named = c.named.1;
        }

  pub never_empty : {b : ℕ} {done left : Positive} {faces : List Face} {entries : List Entry} {A : Type 0}
      → Course t size total (b ∷ []) [] faces done left entries → A
  never_empty {b} {left} {faces} {entries} c = some_rest t total b (below faces left) (length entries + length faces) c.running

  -- A FACE IS DONE

  module _ {cells : List ℕ} (settled : Fixed t cells size total) {f : Face} {fs : List Face} {rest done left : Positive} {entries : List Entry}
      (c : Course t size total [] rest (f ∷ fs) done left entries) where
    names : InRange t.table.size f.a × InRange t.table.size f.b
    names =
        let n = complete_named t.table c.stacked.0.differ c.stacked.0.rule in
        (record { low = n.0.low; high = n.0.high }, record { low = n.1.low; high = n.1.high })

    pub a_named : InRange t.table.size f.a
    a_named = names.0

    pub b_named : InRange t.table.size f.b
    b_named = names.1

    pub to_cell : WordAt cells (cell_at f.a f.b) t.table.size (f.done ++ f.left)
    to_cell = cell_word cells t.table settled.stands f.a f.b a_named b_named (f.done ++ f.left) f.other c.stacked.0.rule

    pub from_cell : WordAt cells (cell_at f.b f.a) t.table.size f.other
    from_cell =
        cell_word cells t.table settled.stands f.b f.a b_named a_named f.other (f.done ++ f.left)
        (complete_turn t.table f.a f.b ∙ ap swapped c.stacked.0.rule)

    -- its letters are no more than the word that the entries have led to
    pub passed_short : length (passed_of (f ∷ fs) done) < 2 ^ offset_width
    passed_short =
        omega (
          arith,
          settled.short,
          led_weight t.table settled.even t.first entries (passed_of (f ∷ fs) done ++ rest) c.leads,
          length_weight t.table (passed_of (f ∷ fs) done ++ rest),
          length-append (passed_of (f ∷ fs) done) rest,
        )

    abbrev pub listed : Entry
    listed = record { offset = length (passed_of fs done); a = f.a; b = f.b }

    module _ (none_left : f.left ≡ []) where
      pub all_done : f.done ++ f.left ≡ f.done
      all_done = ap (λ x. f.done ++ x) none_left ∙ append-nil f.done

      swap : Swap (complete t.table) (passed_of (f ∷ fs) done ++ rest) (passed_of (marked f.b fs) (marked_done f.b fs done) ++ (f.other ++ rest))
      swap =
          record {
            before = passed_of fs done;
            after = rest;
            a = f.a;
            b = f.b;
            x = f.done;
            y = f.other;
            rule = c.stacked.0.rule ∙ ap (λ x. complement x f.other) all_done;
            left = append_assoc (passed_of fs done) (f.a ∷ f.done) rest;
            right =
                ap (λ w. w ++ (f.other ++ rest)) (passed_marked f.b fs done)
                ∙ append_assoc (passed_of fs done) (f.b ∷ []) (f.other ++ rest);
          }

      pub emitted : Course t size total [] (f.other ++ rest) (marked f.b fs) (marked_done f.b fs done) left (entries ++ (listed ∷ []))
      unfolding swap
      emitted =
          record {
            stacked = stacked_marked t.table t.second f.b fs done left c.stacked.1;
            running =
                running_as
                (ap (λ x. negative rest ++ (positive x ++ (negative f.other ++ below fs left))) none_left
                ∙ (sym (append_assoc (negative rest) (negative f.other) (below fs left))
                ∙ ap₂ (λ v w. v ++ w) (sym (negative_append f.other rest)) (sym (below_marked f.b fs left))))
                (omega (arith, length-append entries (listed ∷ []), length_marked f.b fs))
                c.running;
            leads =
                leads_more t.table t.first entries (passed_of (f ∷ fs) done ++ rest) listed
                (passed_of (marked f.b fs) (marked_done f.b fs done) ++ (f.other ++ rest)) c.leads
                (swap_applied t.table swap c.stacked.0.differ);
            named =
                subst (λ w. Lettered size w) (sym (positive_append f.other rest))
                (lettered_append size (positive f.other) (positive rest)
                (subst (λ n. Lettered n (positive f.other)) (sym settled.size_is) from_cell.lettered)
                c.named);
          }

  -- THE END

  pub over : {done rest : Positive} {entries : List Entry} → Course t size total [] rest [] done [] entries → Over t total entries
  over {done} {rest} {entries} c =
      let f = finishes t total rest (length entries + 0) (running_as (append-nil (negative rest)) refl c.running) in
      let e : done ++ rest ≡ t.second = ap (λ x. done ++ x) f.empty ∙ c.stacked in
      record {
        leads = subst (λ w. Leads t.table t.first entries w) e c.leads;
        number = omega (arith, f.all);
      }
