-- A pattern whose items are laid out one after another: what is done, and what is to come.
use mathlib.Core.Path.{◌≡◌, refl, sym, ap, subst, ◌∙◌}
use mathlib.Core.List.{List, [], ◌∷◌, ◌++◌, append_assoc, append-nil}
use mathlib.Core.Bool.{Bool, true, false, cond}
use Prim.Native.Nat.{ℕ, ◌+◌, ◌≤◌, ◌<◌}
use native.Mathlib.Omega.{arith}
use lib.Dec.{eqb}
use lib.ListN.{length, drop, length-append}
use lib.Seq.{drop-drop}
use Rattle.model.specs.Word.{Word}
use Rattle.model.specs.Outcome.{Outcome, answered, refused, ◌>>=◌}
use Rattle.model.specs.Bits.{Read}
use Rattle.model.specs.Notation.{Pattern, nothing, ◌then◌, Item, meaning, item_meaning, moves, item_moves, space_byte, read_item, read_on, read_pattern}
use Rattle.model.proofs.Impossible.{impossible}
use Rattle.theory.proofs.Notation.{notation_meaning}
use Rattle.model.specs.Plain.{most_letters}
use Rattle.importing.specs.declared.writing.Laid.{Laid}
use Rattle.importing.specs.Reading.{stands_first, ends_first, within}
use Rattle.importing.specs.Laying.{WordPut, ItemFits, ItemLaid, PatternFits, PatternLaid}
use Rattle.importing.proofs.Readers.{before, on_space, on_end, all_items, in_nothing, in_items, pattern_in}
use Rattle.importing.proofs.Shorter.{Leaves, item_shortens, within_shortens, all_step}
use Rattle.importing.proofs.Laying.{put_nothing, put_kept, put_append}

-- a pattern that fits was read
pub record Fitting (o : Outcome (Read Pattern)) (from room : ℕ) : Type 0 where
  pub pattern : Read Pattern
  pub read : o ≡ answered pattern
  pub few : moves pattern.value ≤ most_letters
  pub inside : from + moves pattern.value ≤ room

pub fitting : (o : Outcome (Read Pattern)) (from room : ℕ) → PatternFits o from room → Fitting o from room
fitting (answered p) from room h = record { pattern = p; read = refl; few = h.0; inside = h.1 }
fitting (refused n place) from room h = absurd h

-- a pattern of no items
pub nothing_written : (depth : ℕ) (t : List ℕ) (from : ℕ) (a : List ℕ) → ends_first t ≡ true → PatternFits (read_pattern depth t) from (length a)
    → PatternLaid (read_pattern depth t) a from a from
nothing_written depth t from a e fits =
    subst (λ o. PatternLaid o a from a from) (sym (pattern_in depth t ∙ in_nothing (within depth) t e)) (
      put_nothing a from (omega (arith, (fitting (read_pattern depth t) from (length a) fits).inside)),
      omega arith,
    )

pub record Underway (text : List ℕ) (at depth from : ℕ) (first area : List ℕ) (laid : Laid) : Type 0 where
  pub whole : Read Pattern
  pub whole_read : read_pattern depth (drop at text) ≡ answered whole
  pub done : Word
  pub left : Read Pattern
  pub so_far : WordPut first from done area
  pub end_is : laid.end ≡ from + length done
  pub to_come : all_items (within depth) (drop laid.next text) ≡ answered left
  pub all : meaning whole.value ≡ done ++ meaning left.value

pub begun : (text : List ℕ) (at depth from : ℕ) (a : List ℕ) → ends_first (drop at text) ≡ false
    → PatternFits (read_pattern depth (drop at text)) from (length a)
    → Underway text at depth from a a (record { next = at; end = from })
begun text at depth from a e fits = record {
  whole = f.pattern;
  whole_read = f.read;
  done = [];
  left = f.pattern;
  so_far = put_nothing a from (omega (arith, f.inside));
  end_is = omega arith;
  to_come = sym (pattern_in depth (drop at text) ∙ in_items (within depth) (drop at text) e) ∙ f.read;
  all = refl;
}
  where
    f : Fitting (read_pattern depth (drop at text)) from (length a)
    f = fitting (read_pattern depth (drop at text)) from (length a) fits

-- the first item of those to come, and what follows it
pub record Next (inner : List ℕ → Outcome (Read Pattern)) (t : List ℕ) (left : Read Pattern) : Type 0 where
  pub first : Read Item
  pub first_read : read_item inner t ≡ answered first
  pub after : read_on (all_items inner) first.value first.rest ≡ answered left
  pub others : Pattern
  pub left_is : left.value ≡ first.value then others

next_item : (inner : List ℕ → Outcome (Read Pattern)) (t : List ℕ) (left : Read Pattern)
    → (read_item inner t >>= λ i. read_on (all_items inner) i.value i.rest) ≡ answered left → Next inner t left
next_item inner t left e = from (read_item inner t) refl e
  where
    then_some : (i : Item) (s : List ℕ) → read_on (all_items inner) i s ≡ answered left → (q : Pattern) × (left.value ≡ i then q)
    then_some i [] p = (nothing, same (cc))
      where
        same : record { value = i then nothing; rest = [] } ≡ left → left.value ≡ i then nothing
        same h = ap (λ (x : Read Pattern). x.value) (sym h)
    then_some i (x ∷ xs) p = test (eqb x space_byte) p
      where
        more : (o : Outcome (Read Pattern)) → (o >>= before i) ≡ answered left → (q : Pattern) × (left.value ≡ i then q)
        more (refused n place) h = impossible (cc)
        more (answered q) h = (q.value, same (cc))
          where
            same : record { value = i then q.value; rest = q.rest } ≡ left → left.value ≡ i then q.value
            same s = ap (λ (y : Read Pattern). y.value) (sym s)

        last : answered (record { value = i then nothing; rest = x ∷ xs }) ≡ answered left → (q : Pattern) × (left.value ≡ i then q)
        last h = (nothing, same (cc))
          where
            same : record { value = i then nothing; rest = x ∷ xs } ≡ left → left.value ≡ i then nothing
            same s = ap (λ (y : Read Pattern). y.value) (sym s)

        test : (b : Bool) → cond b (all_items inner xs >>= before i) (answered (record { value = i then nothing; rest = x ∷ xs })) ≡ answered left
            → (q : Pattern) × (left.value ≡ i then q)
        test true h = more (all_items inner xs) h
        test false h = last h

    from : (o : Outcome (Read Item)) → read_item inner t ≡ o → (o >>= λ i. read_on (all_items inner) i.value i.rest) ≡ answered left → Next inner t left
    from (refused n place) p q = impossible (cc)
    from (answered i) p q = record {
      first = i;
      first_read = p;
      after = q;
      others = (then_some i.value i.rest q).0;
      left_is =
          (then_some i.value i.rest q).1;
    }

-- an item behind which more come, and the last one
pub record More (inner : List ℕ → Outcome (Read Pattern)) (i : Item) (t : List ℕ) (left : Read Pattern) : Type 0 where
  pub others : Read Pattern
  pub others_read : all_items inner (drop 1 t) ≡ answered others
  pub left_is : left.value ≡ i then others.value

more_items : (inner : List ℕ → Outcome (Read Pattern)) (i : Item) (t : List ℕ) (left : Read Pattern) → stands_first space_byte t ≡ true
    → read_on (all_items inner) i t ≡ answered left → More inner i t left
more_items inner i t left s e = from (all_items inner (drop 1 t)) refl (sym (on_space (all_items inner) i t s) ∙ e)
  where
    from : (o : Outcome (Read Pattern)) → all_items inner (drop 1 t) ≡ o → (o >>= before i) ≡ answered left → More inner i t left
    from (refused n place) p q = impossible (cc)
    from (answered r) p q = same (cc)
      where
        same : record { value = i then r.value; rest = r.rest } ≡ left → More inner i t left
        same h = record { others = r; others_read = p; left_is = ap (λ (x : Read Pattern). x.value) (sym h) }

last_item : (inner : List ℕ → Outcome (Read Pattern)) (i : Item) (t : List ℕ) (left : Read Pattern) → stands_first space_byte t ≡ false
    → read_on (all_items inner) i t ≡ answered left → left.value ≡ i then nothing
last_item inner i t left s e = from (sym (on_end (all_items inner) i t s) ∙ e)
  where
    from : answered (record { value = i then nothing; rest = t }) ≡ answered left → left.value ≡ i then nothing
    from h = same (cc)
      where
        same : record { value = i then nothing; rest = t } ≡ left → left.value ≡ i then nothing
        same p = ap (λ (x : Read Pattern). x.value) (sym p)

-- ONE ITEM FURTHER

module _ (text : List ℕ) (at depth from : ℕ) (first area : List ℕ) (laid : Laid) (fits : PatternFits (read_pattern depth (drop at text)) from (length first))
    (u : Underway text at depth from first area laid) where
  f : Fitting (read_pattern depth (drop at text)) from (length first)
  f = fitting (read_pattern depth (drop at text)) from (length first) fits

  -- all its moves, with those that are done
  all_moves : length u.done + moves u.left.value ≡ moves f.pattern.value
  all_moves =
      omega (arith, length-append u.done (meaning u.left.value), notation_meaning.counted u.left.value) ∙ ap length (sym u.all)
      ∙ notation_meaning.counted u.whole.value
      ∙ ap (λ (r : Read Pattern). moves r.value) (same (sym u.whole_read ∙ f.read))
    where
      same : {p q : Read Pattern} → answered p ≡ answered q → p ≡ q
      same h = cc

  next : Next (within depth) (drop laid.next text) u.left
  next = next_item (within depth) (drop laid.next text) u.left
      (sym (all_step (within depth) (within_shortens depth) (drop laid.next text)) ∙ u.to_come)

  fewer : item_moves next.first.value ≤ moves u.left.value
  fewer = omega (arith, ap moves next.left_is)

  -- the item to come has room
  pub item_fits : ItemFits (read_item (within depth) (drop laid.next text)) laid.end (length area)
  item_fits =
      subst (λ o. ItemFits o laid.end (length area)) (sym next.first_read) (
        omega (arith, fewer, all_moves, f.few),
        omega (arith, fewer, all_moves, f.inside, u.end_is, put_kept first from u.done area u.so_far),
      )

  module _ (then_area : List ℕ) (then_laid : Laid)
      (wrote : ItemLaid (read_item (within depth) (drop laid.next text)) text area laid.end then_area then_laid) where
    told : WordPut area laid.end (item_meaning next.first.value) then_area × (drop then_laid.next text ≡ next.first.rest)
        × (then_laid.end ≡ laid.end + item_moves next.first.value)
    told = subst (λ o. ItemLaid o text area laid.end then_area then_laid) next.first_read wrote

    both : WordPut first from (u.done ++ item_meaning next.first.value) then_area
    both = put_append first area then_area from u.done (item_meaning next.first.value) u.so_far
        (subst (λ n. WordPut area n (item_meaning next.first.value) then_area) u.end_is told.0)

    length_item : length (item_meaning next.first.value) ≡ item_moves next.first.value
    length_item = ap length (sym (append-nil (item_meaning next.first.value))) ∙ notation_meaning.counted (next.first.value then nothing) ∙ omega arith

    length_both : length (u.done ++ item_meaning next.first.value) ≡ length u.done + item_moves next.first.value
    length_both = length-append u.done (item_meaning next.first.value) ∙ ap (λ n. length u.done + n) length_item

    pub last_written : stands_first space_byte (drop then_laid.next text) ≡ false → PatternLaid (read_pattern depth (drop at text)) first from then_area
        then_laid.end
    last_written s =
        subst (λ o. PatternLaid o first from then_area then_laid.end) (sym u.whole_read) (
          subst (λ w. WordPut first from w then_area) (sym means) both,
          omega (arith, told.2, u.end_is, length_both, ap length (sym means), notation_meaning.counted u.whole.value),
        )
      where
        last : u.left.value ≡ next.first.value then nothing
        last = last_item (within depth) next.first.value next.first.rest u.left (ap (stands_first space_byte) (sym told.1) ∙ s) next.after

        means : meaning u.whole.value ≡ u.done ++ item_meaning next.first.value
        means = u.all ∙ ap (λ p. u.done ++ meaning p) last ∙ ap (λ w. u.done ++ w) (append-nil (item_meaning next.first.value))

    module _ (s : stands_first space_byte (drop then_laid.next text) ≡ true) where
      more : More (within depth) next.first.value next.first.rest u.left
      more = more_items (within depth) next.first.value next.first.rest u.left (ap (stands_first space_byte) (sym told.1) ∙ s) next.after

      goes_on : drop (then_laid.next + 1) text ≡ drop 1 next.first.rest
      goes_on = sym (drop-drop 1 then_laid.next text) ∙ ap (drop 1) told.1

      pub further : Underway text at depth from first then_area (record { next = then_laid.next + 1; end = then_laid.end })
      further = record {
        whole = u.whole;
        whole_read = u.whole_read;
        done = u.done ++ item_meaning next.first.value;
        left = more.others;
        so_far = both;
        end_is = omega (arith, told.2, u.end_is, length_both);
        to_come = ap (all_items (within depth)) goes_on ∙ more.others_read;
        all = u.all ∙ ap (λ p. u.done ++ meaning p) more.left_is
            ∙ sym (append_assoc u.done (item_meaning next.first.value) (meaning more.others.value));
      }

      -- and less text is left
      pub less_left : length (drop (then_laid.next + 1) text) < length (drop laid.next text)
      less_left =
          subst (λ r. length r < length (drop laid.next text)) (sym goes_on)
          (shorter next.first.rest (ap (stands_first space_byte) (sym told.1) ∙ s)
          (subst (Leaves (length (drop laid.next text))) next.first_read
          (item_shortens (within depth) (within_shortens depth) (drop laid.next text))))
        where
          shorter : (r : List ℕ) → stands_first space_byte r ≡ true → length r ≤ length (drop laid.next text)
              → length (drop 1 r) < length (drop laid.next text)
          shorter [] e h = impossible (cc)
          shorter (x ∷ xs) e h = omega (arith, h)
