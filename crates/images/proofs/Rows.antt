-- Reading the rows of a table into its cells: the pairs and rows read so far, what is left to read, and what the cells hold. The laws are for
-- any reader of a pair; then come those of a table in a form.
use mathlib.Core.Path.{◌≡◌, refl, sym, ap, subst, ◌∙◌}
use mathlib.Core.Logic.{◌⊎◌, inl, inr, ⊎_elim}
use mathlib.Core.Bool.{true, false, ◌&&◌, cond}
use mathlib.Core.List.{List, [], ◌∷◌, ◌++◌}
use Prim.Native.Nat.{ℕ, suc, ◌+◌, ◌-◌, ◌≤◌, ◌<◌}
use native.Mathlib.Omega.{arith}
use native.Mathlib.Decide.{ℕ_discrete}
use borrow.Author.Tests.{ne_eqb, lt-ltb, le-ltb, le-leb}
use lib.Dec.{ltb, leb}
use lib.ListN.{length, get_or, length-append, get_or-append}
use lib.Seq.{get_or_at}
use Rattle.model.specs.Presentation.{Presentation, Complement, undefined, complement, swapped, listed, complete}
use Rattle.model.specs.Outcome.{unplaced, Outcome, answered, refused, ◌>>=◌}
use Rattle.model.specs.Bits.{Read, bits_of, finish, filling}
use Rattle.model.specs.Images.{several, rows_of, most_size}
use Rattle.model.proofs.Numbers.{below_or}
use Rattle.images.specs.Forms.{form_of, number_in, weight_in, pair_in, rows_in, parts_in, table_in}
use Rattle.cells.specs.Layout.{Letters, cell_at, weight_at}
use Rattle.model.specs.Range.{InRange}
use Rattle.model.proofs.Complete.{complete_same}
use Rattle.cells.specs.Stands.{HoldsFirst, HoldsWeights, Stands, Blank}
use Rattle.cells.specs.Kept.{SameCell, HoldsPair}
use Rattle.cells.proofs.Kept.{holds_kept, same_cell_after, swap_letters}
use Rattle.cells.proofs.Rules.{of_some, of_few}
use Rattle.images.specs.Tables.{HoldsRow, PairFrom, RowFrom, RowsHeld, Loaded, LoadedAs, TableDone, SizeDone}
use Rattle.images.specs.declared.forms.Form.{Form}
use Rattle.images.specs.declared.forms.Kind.{Kind}
use Rattle.std.specs.Prelude.{Ok, Err}
use Rattle.std.specs.declared.result.Result.{Result}
use Rattle.model.specs.declared.answers.Refusal.{Refusal}
use Rattle.images.proofs.Several.{after, after_none, several_step, several_refused, several_done, several_length, rows_step, rows_refused, rows_done}

-- what holds of each index before the last and of the last holds of each
pub one_more : {A : Type 0} (P : ℕ → A → Type 0) (xs : List A) (x d : A) → ((j : ℕ) → j < length xs → P j (get_or xs j d)) → P (length xs) x
    → (j : ℕ) → j < length (xs ++ (x ∷ [])) → P j (get_or (xs ++ (x ∷ [])) j d)
one_more P xs x d old new j h =
    ⊎_elim
    (λ (b : j < length xs). subst (P j) (sym (get_or-append xs (x ∷ []) d j b)) (old j b))
    (λ (b : length xs ≤ j).
    let e : length xs ≡ j = omega (arith, length-append xs (x ∷ [])) in
    subst (λ j. P j (get_or (xs ++ (x ∷ [])) j d)) e (subst (P (length xs)) (sym (get_or_at xs x [] d (length xs) refl)) new))
    (below_or j (length xs))

pub holds_pair_kept : (size : ℕ) (before after : List ℕ) (a b : ℕ) (c : Complement) → SameCell before after a b → SameCell before after b a
    → HoldsPair size before a b c → HoldsPair size after a b c
holds_pair_kept size before after a b c there back h =
    record { there = holds_kept size before after a b c there h.there; back = holds_kept size before after b a (swapped c) back h.back }

pub record RowFilled (reader : List ℕ → Outcome (Read Complement)) (begin : List ℕ) (size : ℕ) (before : List ℕ) (a : ℕ) (cells rest : List ℕ)
    (b : ℕ) : Type 0 where
  pub above : a < b
  pub some_left : b ≤ size + 1
  pub same_length : length cells ≡ length before
  pub done : List Complement
  pub done_length : a + 1 + length done ≡ b
  pub resumed : several reader (size - a) begin ≡ after done (several reader (size + 1 - b) rest)
  pub holds : HoldsRow size cells a done
  pub kept : (p q : ℕ) → Letters p q → (p < a) ⊎ (q < a) → SameCell before cells p q
  pub diagonal : (p : ℕ) → InRange most_size p → SameCell before cells p p

module _ (reader : List ℕ → Outcome (Read Complement)) (begin : List ℕ) (size : ℕ) (before : List ℕ) (a : ℕ) (positive : 1 ≤ a) (small : a ≤ size)
    (few : size ≤ most_size) where
  pub row_none : RowFilled reader begin size before a before begin (a + 1)
  row_none =
      record {
        above = omega arith;
        some_left = omega arith;
        same_length = refl;
        done = [];
        done_length = omega arith;
        resumed = sym (after_none (several reader (size + 1 - (a + 1)) begin)
            ∙ ap (λ k. several reader k begin) {x = size + 1 - (a + 1)} {y = size - a} (omega arith));
        holds = λ j h. absurd (omega arith);
        kept = λ p q l o k h. refl;
        diagonal = λ p l k h. refl;
      }

  module _ (cells rest : List ℕ) (b : ℕ) (f : RowFilled reader begin size before a cells rest b) where
    left : b ≤ size → size + 1 - b ≡ suc (size + 1 - (b + 1))
    left h = omega arith

    pub row_more : b ≤ size → (cells' rest' : List ℕ) → length cells' ≡ length cells → PairFrom reader size cells a b cells' rest rest'
        → RowFilled reader begin size before a cells' rest' (b + 1)
    row_more h cells' rest' same p =
        let n : a + 1 + length f.done ≡ b = f.done_length in
        record {
          above = omega (arith, f.above);
          some_left = omega arith;
          same_length = same ∙ f.same_length;
          done = f.done ++ (p.pair ∷ []);
          done_length = omega (arith, length-append f.done (p.pair ∷ []));
          resumed =
              f.resumed
              ∙ (ap (λ k. after f.done (several reader k rest)) (left h)
              ∙ several_step reader f.done (size + 1 - (b + 1)) rest (record { value = p.pair; rest = rest' }) p.read);
          holds =
              one_more (λ j c. HoldsPair size cells' a (a + 1 + j) c) f.done p.pair undefined
              (λ j l.
              let letters : Letters a (a + 1 + j) = (record { low = positive; high = omega arith }, record { low = omega arith; high = omega arith }) in
              holds_pair_kept size cells cells' a (a + 1 + j) (get_or f.done j undefined)
              (p.kept a (a + 1 + j) letters (λ e. let x = e.1 in omega arith) (λ e. let x = e.0 in omega (arith, f.above)))
              (p.kept (a + 1 + j) a (swap_letters a (a + 1 + j) letters) (λ e. let x = e.0 in omega arith) (λ e. let x = e.0 in omega arith))
              (f.holds j l))
              (subst (λ b. HoldsPair size cells' a b p.pair) (sym n) p.holds);
          kept = λ u v l o.
              same_cell_after before cells cells' u v (f.kept u v l o)
              (p.kept u v l
              (λ e. ⊎_elim (λ (x : u < a). let y = e.0 in omega arith) (λ (x : v < a). let y = e.1 in omega (arith, f.above)) o)
              (λ e. ⊎_elim (λ (x : u < a). let y = e.0 in omega (arith, f.above)) (λ (x : v < a). let y = e.1 in omega arith) o));
          diagonal = λ u l.
              same_cell_after before cells cells' u u (f.diagonal u l)
              (p.kept u u (l, l) (λ e. let x = e.0 in let y = e.1 in omega (arith, f.above))
              (λ e. let x = e.0 in let y = e.1 in omega (arith, f.above)));
        }

    pub pair_refused : (n : ℕ) → b ≤ size → reader rest ≡ refused n unplaced → several reader (size - a) begin ≡ refused n unplaced
    pair_refused n h e =
        f.resumed
        ∙ (ap (λ k. after f.done (several reader k rest)) (left h)
        ∙ several_refused reader f.done (size + 1 - (b + 1)) rest n unplaced e)

    pub row_answered : size < b → RowFrom reader size before a cells begin rest
    row_answered h =
        record {
          row = f.done;
          read =
              f.resumed
              ∙ (ap (λ k. after f.done (several reader k rest)) {x = size + 1 - b} {y = 0} (omega arith)
              ∙ several_done reader f.done rest);
          holds = f.holds;
          kept = f.kept;
          diagonal = f.diagonal;
        }

-- ROWS

-- weights stand where they stood, if no place of one changed
weights_kept : (size : ℕ) → size ≤ most_size → (before after excess : List ℕ)
    → ((p : ℕ) → InRange most_size p → get_or after (weight_at p) 0 ≡ get_or before (weight_at p) 0)
    → HoldsWeights size before excess → HoldsWeights size after excess
weights_kept size few before after excess same h =
    record {
      many = h.many;
      holds = λ k l. same (1 + k) (record { low = omega arith; high = omega (arith, h.many) }) ∙ h.holds k l;
      light = h.light;
    }

pub record RowsFilled (reader : List ℕ → Outcome (Read Complement)) (begin : List ℕ) (size : ℕ) (start cells rest : List ℕ) (a : ℕ) : Type 0 where
  pub positive : 1 ≤ a
  pub some_left : a ≤ size + 1
  pub blank : Blank cells
  pub weighed : (excess : List ℕ) → HoldsWeights size start excess → HoldsWeights size cells excess
  pub done : List (List Complement)
  pub done_length : 1 + length done ≡ a
  pub resumed : rows_of reader size begin ≡ after done (rows_of reader (size + 1 - a) rest)
  pub widths : (i : ℕ) → i < length done → length (get_or done i []) ≡ size - (1 + i)
  pub holds : (i : ℕ) → i < length done → HoldsRow size cells (1 + i) (get_or done i [])

-- the pair a, b, whichever way round, from its row
module _ (cells : List ℕ) (size : ℕ) (rows : List (List Complement)) (few : size ≤ most_size)
    (holds : (i : ℕ) → i < length rows → HoldsRow size cells (1 + i) (get_or rows i []))
    (many : length rows ≡ size) (widths : (i : ℕ) → i < length rows → length (get_or rows i []) ≡ size - (1 + i)) (excess : List ℕ) where
  abbrev T : Presentation
  T = record { size = size; excess = excess; rows = rows }

  listed_is : (a b : ℕ) → 1 ≤ a → b ≤ size → listed T a b ≡ get_or (get_or rows (a - 1) []) (b - a - 1) undefined
  listed_is a b ha hb =
      ap (λ t. cond (t && leb b size) (get_or (get_or rows (a - 1) []) (b - a - 1) undefined) undefined) (le-leb 1 a ha)
      ∙ ap (λ t. cond t (get_or (get_or rows (a - 1) []) (b - a - 1) undefined) undefined) (le-leb b size hb)

  listed_holds : (a b : ℕ) → 1 ≤ a → a < b → b ≤ size → HoldsPair size cells a b (listed T a b)
  listed_holds a b ha h hb =
      let i : a - 1 < length rows = omega arith in
      let j : b - a - 1 < length (get_or rows (a - 1) []) = omega (arith, widths (a - 1) i) in
      let ea : 1 + (a - 1) ≡ a = omega arith in
      let eb : a + 1 + (b - a - 1) ≡ b = omega arith in
      let raw : HoldsPair size cells (1 + (a - 1)) (1 + (a - 1) + 1 + (b - a - 1)) (get_or (get_or rows (a - 1) []) (b - a - 1) undefined) =
      holds (a - 1) i (b - a - 1) j in
      subst (HoldsPair size cells a b) (sym (listed_is a b ha hb))
      (subst (λ q. HoldsPair size cells a q (get_or (get_or rows (a - 1) []) (b - a - 1) undefined)) eb
      (subst (λ p. HoldsPair size cells p (p + 1 + (b - a - 1)) (get_or (get_or rows (a - 1) []) (b - a - 1) undefined)) ea raw))

  pub complete_holds : (a b : ℕ) → 1 ≤ a → a ≤ size → 1 ≤ b → b ≤ size → (a ≡ b → ⊥) → HoldsFirst size cells (cell_at a b) (complete T a b)
  unfolding complete
  complete_holds a b ha la hb lb d =
      subst (λ t. HoldsFirst size cells (cell_at a b) (cond t (complement [] []) (cond (ltb a b) (listed T a b) (swapped (listed T b a))))) (sym (ne_eqb a b d))
      (⊎_elim
      (λ (h : a < b). subst (λ t. HoldsFirst size cells (cell_at a b) (cond t (listed T a b) (swapped (listed T b a)))) (sym (lt-ltb a b h))
      (listed_holds a b ha h lb).there)
      (λ (h : b ≤ a). subst (λ t. HoldsFirst size cells (cell_at a b) (cond t (listed T a b) (swapped (listed T b a)))) (sym (le-ltb a b h))
      (listed_holds b a hb (differ h) la).back)
      (below_or a b))
    where
      differ : b ≤ a → b < a
      differ h = ⊎_elim (λ (x : b < a). x) (λ (x : a ≤ b). let e : a ≡ b = omega arith in absurd (d e)) (below_or b a)

module _ (reader : List ℕ → Outcome (Read Complement)) (begin : List ℕ) (size : ℕ) (some : 1 ≤ size) (few : size ≤ most_size) where
  pub rows_none : (cells : List ℕ) → Blank cells → RowsFilled reader begin size cells cells begin 1
  rows_none cells blank =
      record {
        positive = omega arith;
        some_left = omega arith;
        blank = blank;
        weighed = λ excess h. h;
        done = [];
        done_length = refl;
        resumed = sym (after_none (rows_of reader (size + 1 - 1) begin) ∙ ap (λ k. rows_of reader k begin) {x = size + 1 - 1} {y = size} (omega arith));
        widths = λ i h. absurd (omega arith);
        holds = λ i h. absurd (omega arith);
      }

  module _ (start cells rest : List ℕ) (a : ℕ) (f : RowsFilled reader begin size start cells rest a) where
    rows_left : a ≤ size → size + 1 - a ≡ suc (size - a)
    rows_left h = omega arith

    pub rows_more : a ≤ size → (cells' rest' : List ℕ) → length cells' ≡ length cells → RowFrom reader size cells a cells' rest rest'
        → RowsFilled reader begin size start cells' rest' (a + 1)
    rows_more h cells' rest' same r =
        let n : 1 + length f.done ≡ a = f.done_length in
        let wide : length r.row ≡ size - a = several_length reader (size - a) rest (record { value = r.row; rest = rest' }) r.read in
        record {
          positive = omega arith;
          some_left = omega arith;
          blank =
              record {
                full = same ∙ f.blank.full;
                diagonal = λ p l.
                    let e : cell_at p p + 0 ≡ cell_at p p = omega arith in
                    subst (λ i. get_or cells' i 0 ≡ get_or cells i 0) e (r.diagonal p l 0 (omega arith)) ∙ f.blank.diagonal p l;
              };
          weighed = λ excess w. weights_kept size few cells cells' excess (λ p l. r.diagonal p l 1 (omega arith)) (f.weighed excess w);
          done = f.done ++ (r.row ∷ []);
          done_length = omega (arith, length-append f.done (r.row ∷ []));
          resumed =
              f.resumed
              ∙ (ap (λ k. after f.done (rows_of reader k rest)) (rows_left h)
              ∙ (rows_step reader f.done (size - a) rest (record { value = r.row; rest = rest' }) r.read
              ∙ ap (λ k. after (f.done ++ (r.row ∷ [])) (rows_of reader k rest')) {x = size - a} {y = size + 1 - (a + 1)} (omega arith)));
          widths = one_more (λ i row. length row ≡ size - (1 + i)) f.done r.row [] f.widths (wide ∙ omega arith);
          holds =
              one_more (λ i row. HoldsRow size cells' (1 + i) row) f.done r.row []
              (λ i l j k.
              let w : length (get_or f.done i []) ≡ size - (1 + i) = f.widths i l in
              let letters : Letters (1 + i) (1 + i + 1 + j) =
              (record { low = omega arith; high = omega arith }, record { low = omega arith; high = omega arith }) in
              holds_pair_kept size cells cells' (1 + i) (1 + i + 1 + j) (get_or (get_or f.done i []) j undefined)
              (r.kept (1 + i) (1 + i + 1 + j) letters (inl (omega arith)))
              (r.kept (1 + i + 1 + j) (1 + i) (swap_letters (1 + i) (1 + i + 1 + j) letters) (inr (omega arith)))
              (f.holds i l j k))
              (subst (λ a. HoldsRow size cells' a r.row) (sym n) r.holds);
        }

    pub rows_row_refused : (n : ℕ) → a ≤ size → several reader (size - a) rest ≡ refused n unplaced → rows_of reader size begin ≡ refused n unplaced
    rows_row_refused n h e =
        f.resumed
        ∙ (ap (λ k. after f.done (rows_of reader k rest)) (rows_left h)
        ∙ rows_refused reader f.done (size - a) rest n unplaced e)

    pub rows_ended : size < a → rows_of reader size begin ≡ answered (record { value = f.done; rest = rest })
    rows_ended h =
        f.resumed
        ∙ (ap (λ k. after f.done (rows_of reader k rest)) {x = size + 1 - a} {y = 0} (omega arith)
        ∙ rows_done reader f.done rest)

    pub rows_listed : size < a → RowsHeld size cells f.done
    rows_listed h = record { many = omega (arith, f.done_length, f.some_left); widths = f.widths; holds = f.holds }

    pub rows_stand : size < a → (excess : List ℕ) → HoldsWeights size start excess → Stands cells (record { size = size; excess = excess; rows = f.done })
    rows_stand h excess w =
        record {
          full = f.blank.full;
          some = some;
          few = few;
          weights = f.weighed excess w;
          cell = λ a b ra rb. by_letters a b ra rb (ℕ_discrete a b);
        }
      where
        T : Presentation
        T = record { size = size; excess = excess; rows = f.done }

        by_letters : (a b : ℕ) → InRange size a → InRange size b → Dec (a ≡ b) → HoldsFirst size cells (cell_at a b) (complete T a b)
        by_letters a b ra rb (yes e) =
            let empty : complete T a b ≡ complement [] [] = rw (← e) (complete_same T a) in
            subst (HoldsFirst size cells (cell_at a b)) (sym empty)
            (record {
              count = ap (λ i. get_or cells (cell_at a i) 0) (sym e) ∙ f.blank.diagonal a (record { low = ra.low; high = omega (arith, ra.high) });
              letters = λ k l. absurd (omega arith);
              in_range = record { short = omega arith; letters = tt };
            })
        by_letters a b ra rb (no e) =
            complete_holds cells size f.done few f.holds (omega (arith, f.done_length, f.some_left)) f.widths excess a b ra.low ra.high
            rb.low rb.high e

-- WITH THE END, in a form

module _ (f : Form) (begin : List ℕ) (size : ℕ) (some : 1 ≤ size) (few : size ≤ most_size) (start cells rest : List ℕ) (a : ℕ)
    (filled : RowsFilled (pair_in f size) begin size start cells rest a) (excess : List ℕ) where
  unfoldable ending : Outcome (Read (List (List Complement))) → Outcome Presentation
  ending o = o >>= λ rs. finish 3 (record { value = record { size = size; excess = excess; rows = rs.value }; rest = rs.rest })

  pub row_refused : (n : ℕ) → a ≤ size → several (pair_in f size) (size - a) rest ≡ refused n unplaced → rows_in f size excess begin ≡ refused n unplaced
  unfolding rows_in ending
  row_refused n h e = ap ending (rows_row_refused (pair_in f size) begin size some few start cells rest a filled n h e)

  ended : size < a → rows_in f size excess begin ≡ finish 3 (record { value = record { size = size; excess = excess; rows = filled.done }; rest = rest })
  unfolding rows_in ending
  ended h = ap ending (rows_ended (pair_in f size) begin size some few start cells rest a filled h)

  pub rows_answered : size < a → filling rest ≡ true → HoldsWeights size start excess → Loaded (rows_in f size excess begin) cells size
  unfolding finish
  rows_answered h t w =
      record {
        table = record { size = size; excess = excess; rows = filled.done };
        read = ended h ∙ ap (λ t. cond t (answered (record { size = size; excess = excess; rows = filled.done })) (refused 3 unplaced)) t;
        listed = rows_listed (pair_in f size) begin size some few start cells rest a filled h;
        of = record { stands = rows_stand (pair_in f size) begin size some few start cells rest a filled h excess w; sized = refl };
      }

  pub rows_tail : size < a → filling rest ≡ false → rows_in f size excess begin ≡ refused 3 unplaced
  unfolding finish
  rows_tail h t = ended h ∙ ap (λ t. cond t (answered (record { size = size; excess = excess; rows = filled.done })) (refused 3 unplaced)) t

-- THE WHOLE TABLE: its number of letters, its weights, then its rows

module _ (kind : Kind) (input : List ℕ) where
  unfoldable sized : Outcome (Read ℕ) → Outcome Presentation
  sized o = o >>= λ n. parts_in (form_of kind (n.value + 1)) (n.value + 1) n.rest

  abbrev pub size_read : Outcome (Read ℕ)
  size_read = number_in (form_of kind 1).sizes (form_of kind 1).low most_size (bits_of input)

  pub size_refused : (n : ℕ) → size_read ≡ refused n unplaced → table_in kind input ≡ refused n unplaced
  unfolding table_in sized
  size_refused n e = ap sized e

  module _ (m : ℕ) (bits : List ℕ) (head : size_read ≡ answered (record { value = m; rest = bits })) where
    abbrev f : Form
    f = form_of kind (m + 1)

    unfoldable weighed : Outcome (Read (List ℕ)) → Outcome Presentation
    weighed o = o >>= λ ws. rows_in f (m + 1) ws.value ws.rest

    weights_next : table_in kind input ≡ weighed (several (weight_in f) (m + 1) bits)
    unfolding table_in sized parts_in weighed
    weights_next = ap sized head

    pub weights_refused : (n : ℕ) → several (weight_in (form_of kind (m + 1))) (m + 1) bits ≡ refused n unplaced → table_in kind input ≡ refused n unplaced
    unfolding weighed
    weights_refused n e = weights_next ∙ ap weighed e

    -- the rows are left
    pub rows_next : (excess rest : List ℕ) → several (weight_in (form_of kind (m + 1))) (m + 1) bits ≡ answered (record { value = excess; rest = rest })
        → rows_in (form_of kind (m + 1)) (m + 1) excess rest ≡ table_in kind input
    unfolding weighed
    rows_next excess rest e = sym (weights_next ∙ ap weighed e)

-- an answer about one reading is one about another with the same outcome
pub loaded_as : {o o' : Outcome Presentation} → o ≡ o' → (cells : List ℕ) (r : Result ℕ Refusal) → LoadedAs o cells r → LoadedAs o' cells r
loaded_as e cells r h = subst (λ o. LoadedAs o cells r) e h

-- what the cells stand for has the number of letters
pub size_done : (image cells : List ℕ) (r : Result ℕ Refusal) → TableDone image cells r → SizeDone image r
size_done image cells (Ok size) t =
    record {
      table = t.table;
      read = t.read;
      size_is = t.of.sized;
      some = of_some t.of;
      few = of_few t.of;
    }
size_done image cells (Err r) e = e
