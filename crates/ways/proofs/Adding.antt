-- One more word among those found: what holds of them goes on to hold, or the listing is longer than the area.
use mathlib.Core.Path.{◌≡◌, refl, sym, ap, ap₂, subst, ◌∙◌}
use mathlib.Core.Logic.{◌⊎◌, inl, inr}
use mathlib.Core.List.Memᴰ
use mathlib.Core.List.{List, [], ◌∷◌, ◌++◌, append_assoc, Memᴰ}
use mathlib.Core.Bool.{true, cond}
use mathlib.Core.Option.{some}
use Prim.Native.Nat.{ℕ, suc, ◌+◌, ◌%◌, ◌≤◌, ◌<◌}
use native.Mathlib.Omega.{arith}
use lib.Dec.{eqb}
use lib.ListN.{length, take, drop, get_or, length-append, length-drop, take-append-drop}
use lib.Seq.{take_at, take_all, drop_at, drop-drop}
use borrow.Author.Tests.{eq-eqb, ne_eqb}
use Rattle.model.specs.Word.{Positive}
use Rattle.model.specs.Presentation.{Presentation, weight_of, weigh}
use Rattle.model.specs.Equivalence.{Entry, applied, Joined}
use Rattle.model.specs.Range.{InRange}
use Rattle.model.specs.Ways.{earlier, Ordered, listing, listing_bytes}
use Rattle.model.proofs.Lists.{all_at}
use Rattle.model.proofs.Joining.{joined_weight, joined_transitive}
use Rattle.model.proofs.Listing.{same_weight_same, ordered_rest, ordered_after, ordered_front, within_shorter, bytes_of, bytes_more}
use Rattle.theory.specs.Ways.{Weighed}
use Rattle.theory.proofs.Clearing.{checked_homogeneous}
use Rattle.theory.proofs.Ways.{joined_letters, applied_joined, finding_within, listing_lists}
use Rattle.ways.specs.declared.swap.Swap.{Swap}
use Rattle.ways.specs.declared.trying.Held.{Held}
use Rattle.spans.proofs.Runs.{letter_ends_none}
use Rattle.ways.specs.Marks.{untried}
use Rattle.ways.specs.Swap.{new_length, new_word}
use Rattle.ways.specs.Insert.{moved_on, Beside, Opened}
use Rattle.ways.specs.Area.{Marked, spelled, words, Legible, Spells, Listed, Fits}
use Rattle.ways.specs.State.{tried_count, Sound, Work, current, Busy, list_of, Progress, TooLong, Swaps}
use Rattle.ways.proofs.NewWords.{new_length_lem}
use Rattle.ways.proofs.Spelling.{spelled_append, spelled_both, spelled_more, spells_length}
use Rattle.ways.proofs.Inserting.{moved_before, moved_after, opened_list}

-- WORDS OF MARKED WORDS

pub word_member : (ms : List Marked) (m : Marked) → Memᴰ m ms → Memᴰ m.word (words ms)
word_member ms m n = Memᴰ.map (λ m. m.word) n

pub marked_member : (ms : List Marked) (x : Positive) → Memᴰ x (words ms) → (m : Marked) × Memᴰ m ms × (m.word ≡ x)
marked_member ms x n = Memᴰ.of_map (λ m. m.word) ms n

-- a listing has as many bytes as the marked words
pub spelled_bytes : (ms : List Marked) → bytes_of (words ms) ≡ length (spelled ms)
spelled_bytes [] = refl
spelled_bytes (m ∷ ms) = omega (arith, bytes_more m.word (words ms), spelled_more m ms, spelled_bytes ms)

-- A WORD MORE

-- a word between two parts
module _ (xs cs : List Marked) (m : Marked) where
  pub more_member : (x : Marked) → Memᴰ x (xs ++ (m ∷ cs)) → (x ≡ m) ⊎ Memᴰ x (xs ++ cs)
  more_member x n = go (Memᴰ.append_cases xs n)
    where
      second : (x ≡ m) ⊎ Memᴰ x cs → (x ≡ m) ⊎ Memᴰ x (xs ++ cs)
      second (inl e) = inl e
      second (inr k) = inr (Memᴰ.append_right xs k)

      go : Memᴰ x xs ⊎ Memᴰ x (m ∷ cs) → (x ≡ m) ⊎ Memᴰ x (xs ++ cs)
      go (inl k) = inr (Memᴰ.append_left cs k)
      go (inr k) = second (Memᴰ.cases_cons k)

  pub more_keeps : (x : Marked) → Memᴰ x (xs ++ cs) → Memᴰ x (xs ++ (m ∷ cs))
  more_keeps x n = go (Memᴰ.append_cases xs n)
    where
      go : Memᴰ x xs ⊎ Memᴰ x cs → Memᴰ x (xs ++ (m ∷ cs))
      go (inl k) = Memᴰ.append_left (m ∷ cs) k
      go (inr k) = Memᴰ.append_right xs (Memᴰ.tail k)

  pub more_words : (x : Positive) → Memᴰ x (words (xs ++ cs)) → Memᴰ x (words (xs ++ (m ∷ cs)))
  more_words x n =
      let t = marked_member (xs ++ cs) x n in
      Memᴰ.cast (sym t.2) (word_member (xs ++ (m ∷ cs)) t.0 (more_keeps t.0 t.1))

  pub more_there : Memᴰ m.word (words (xs ++ (m ∷ cs)))
  more_there = word_member (xs ++ (m ∷ cs)) m (Memᴰ.append_right xs (Memᴰ.head refl))

  pub more_length : length (spelled (xs ++ (m ∷ cs))) ≡ length (spelled (xs ++ cs)) + (length m.word + 1)
  more_length = omega (arith, spelled_both xs (m ∷ cs), spelled_more m cs, spelled_both xs cs)

more_ordered : (xs cs : List Marked) (m : Marked) → Ordered (words (xs ++ cs)) → ((x : Marked) → Memᴰ x xs → earlier x.word m.word ≡ true)
    → ((x : Marked) → Memᴰ x cs → earlier m.word x.word ≡ true) → Ordered (words (xs ++ (m ∷ cs)))
more_ordered [] cs m o early late = ordered_front m.word (words cs) o (λ w n. later w (marked_member cs w n))
  where
    later : (w : Positive) → (x : Marked) × Memᴰ x cs × (x.word ≡ w) → earlier m.word w ≡ true
    later w t = ap (earlier m.word) (sym t.2) ∙ late t.0 t.1
more_ordered (x ∷ xs) cs m o early late =
    ordered_front x.word (words (xs ++ (m ∷ cs)))
    (more_ordered xs cs m (ordered_rest x.word (words (xs ++ cs)) o) (λ y n. early y (Memᴰ.tail n)) late)
    (λ w n. each w (marked_member (xs ++ (m ∷ cs)) w n))
  where
    first : (y : Marked) → (y ≡ m) ⊎ Memᴰ y (xs ++ cs) → earlier x.word y.word ≡ true
    first y (inl e) = ap (λ z. earlier x.word z.word) e ∙ early x (Memᴰ.head refl)
    first y (inr n) = ordered_after x.word (words (xs ++ cs)) o y.word (word_member (xs ++ cs) y n)

    each : (w : Positive) → (y : Marked) × Memᴰ y (xs ++ (m ∷ cs)) × (y.word ≡ w) → earlier x.word w ≡ true
    each w t = ap (earlier x.word) (sym t.2) ∙ first t.0 (more_member xs cs m t.0 t.1)

more_tried : (xs cs : List Marked) (m : Marked) → m.mark ≡ untried → tried_count (xs ++ (m ∷ cs)) ≡ tried_count (xs ++ cs)
more_tried [] cs m e = ap (λ t. cond t (suc (tried_count cs)) (tried_count cs)) (ne_eqb m.mark 0 (omega (arith, e)))
more_tried (x ∷ xs) cs m e = ap (λ k. cond (eqb x.mark 0) (suc k) k) (more_tried xs cs m e)

module _ (T : Presentation) (u : Positive) (weighed : Weighed T u) (before area : List ℕ) (used count : ℕ) (xs cs : List Marked)
    (s : Sound T u before area used (xs ++ cs) count) (v : Positive) (j : Joined T u v)
    (early : (x : Marked) → Memᴰ x xs → earlier x.word v ≡ true) (late : (x : Marked) → Memᴰ x cs → earlier v x.word ≡ true) where
  ordered : Ordered (words (xs ++ (current v ∷ cs)))
  ordered = more_ordered xs cs (current v) s.spells.ordered early late

  joined : (m : Marked) → Memᴰ m (xs ++ (current v ∷ cs)) → Joined T u m.word
  joined m n = go (more_member xs cs (current v) m n)
    where
      go : (m ≡ current v) ⊎ Memᴰ m (xs ++ cs) → Joined T u m.word
      go (inl e) = subst (λ x. Joined T u x.word) (sym e) j
      go (inr k) = s.joined m k

  long : length (spelled (xs ++ (current v ∷ cs))) ≡ used + (length v + 1)
  long = more_length xs cs (current v) ∙ ap (λ k. k + (length v + 1)) (sym (spells_length area used (xs ++ cs) s.spells))

  -- where the words do not fit with the new one, the listing does not
  pub too_long : length area < used + (length v + 1) → length before < length (listing_bytes (listing T u))
  too_long h =
      let within = finding_within T u weighed (words (xs ++ (current v ∷ cs))) (λ w n. let t = marked_member (xs ++ (current v ∷ cs)) w n in
      subst (Joined T u) t.2 (joined t.0 t.1)) in
      let shorter = within_shorter (words (xs ++ (current v ∷ cs))) (listing T u) ordered (listing_lists T u weighed).ordered within in
      omega (arith, shorter, spelled_bytes (xs ++ (current v ∷ cs)), long, s.same_length)

  legible : Legible (current v)
  legible =
      record {
        letters = λ i h. letter_ends_none T.size (get_or v i 0) weighed.in_range.few
            (all_at (InRange T.size) v i 0 (joined_letters T weighed.in_range u v j weighed.letters) h);
        ends = eq-eqb (untried % untried) 0 refl;
      }

  -- the area once the word stands in it
  module _ (after : List ℕ) (room : used + (length v + 1) ≤ length area)
      (o : Opened area (length (spelled xs)) used (v ++ (untried ∷ [])) after) where
    used_is : used ≡ length (spelled xs) + length (spelled cs)
    used_is = spells_length area used (xs ++ cs) s.spells ∙ spelled_both xs cs

    bytes_length : length (v ++ (untried ∷ [])) ≡ length v + 1
    bytes_length = length-append v (untried ∷ [])

    area_is : area ≡ spelled xs ++ (spelled cs ++ drop used area)
    area_is =
        sym (take-append-drop used area)
        ∙ (ap (λ l. l ++ drop used area) (s.spells.bytes ∙ spelled_append xs cs) ∙ append_assoc (spelled xs) (spelled cs) (drop used area))

    opened : after ≡ spelled xs ++ ((v ++ (untried ∷ [])) ++ (spelled cs ++ drop (length (v ++ (untried ∷ []))) (drop used area)))
    opened =
        opened_list area after (v ++ (untried ∷ [])) (spelled xs) (spelled cs) (drop used area) area_is (omega (arith, bytes_length, length-drop used area))
        (subst (λ k. Opened area (length (spelled xs)) k (v ++ (untried ∷ [])) after) used_is o)

    after_is : after ≡ spelled (xs ++ (current v ∷ cs)) ++ drop (length v + 1) (drop used area)
    after_is =
        opened
        ∙ (ap (λ k. spelled xs ++ ((v ++ (untried ∷ [])) ++ (spelled cs ++ drop k (drop used area)))) bytes_length
        ∙ (ap (λ l. spelled xs ++ l) (sym (append_assoc (v ++ (untried ∷ [])) (spelled cs) (drop (length v + 1) (drop used area))))
        ∙ (sym (append_assoc (spelled xs) ((v ++ (untried ∷ [])) ++ spelled cs) (drop (length v + 1) (drop used area)))
        ∙ ap (λ l. l ++ drop (length v + 1) (drop used area)) (sym (spelled_append xs (current v ∷ cs))))))

    pub grown_sound : Sound T u before after (used + (length v + 1)) (xs ++ (current v ∷ cs)) count
    grown_sound =
        record {
          spells = record {
            fits = omega (arith, room, o.same_length);
            bytes = ap (take (used + (length v + 1))) after_is ∙ take_at (spelled (xs ++ (current v ∷ cs))) (drop (length v + 1) (drop used area))
                (used + (length v + 1)) long;
            legible = λ m n. readable m (more_member xs cs (current v) m n);
            ordered = ordered;
          };
          same_length = o.same_length ∙ s.same_length;
          rest =
              ap (drop (used + (length v + 1))) after_is
              ∙ (drop_at (spelled (xs ++ (current v ∷ cs))) (drop (length v + 1) (drop used area)) (used + (length v + 1)) long
              ∙ (ap (drop (length v + 1)) s.rest ∙ drop-drop (length v + 1) used before));
          joined = joined;
          has = more_words xs cs (current v) u s.has;
          marks = λ m n. marked m (more_member xs cs (current v) m n);
          tried = λ m n e w d h. trying m e w d h (more_member xs cs (current v) m n);
          counted = more_tried xs cs (current v) refl ∙ s.counted;
        }
      where
        readable : (m : Marked) → (m ≡ current v) ⊎ Memᴰ m (xs ++ cs) → Legible m
        readable m (inl e) = subst Legible (sym e) legible
        readable m (inr n) = s.spells.legible m n

        marked : (m : Marked) → (m ≡ current v) ⊎ Memᴰ m (xs ++ cs) → (m.mark ≡ 0) ⊎ (m.mark ≡ untried)
        marked m (inl e) = inr (ap (λ x. x.mark) e)
        marked m (inr n) = s.marks m n

        trying : (m : Marked) → m.mark ≡ 0 → (w : Positive) (d : Entry) → applied T m.word d ≡ some w → (m ≡ current v) ⊎ Memᴰ m (xs ++ cs)
            → Memᴰ w (words (xs ++ (current v ∷ cs)))
        trying m e w d h (inl p) = let mark : m.mark ≡ untried = ap (λ x. x.mark) p in absurd (omega (arith, e, mark))
        trying m e w d h (inr n) = more_words xs cs (current v) w (s.tried m n e w d h)

-- WHERE THE WORD UNDER TRIAL IS

-- one list in two parts, in two ways
data Parts (xs cs ys : List Marked) (m : Marked) (zs : List Marked) : Type 0 where
  behind : (ws : List Marked) → ys ≡ xs ++ ws → cs ≡ ws ++ (m ∷ zs) → Parts xs cs ys m zs
  ahead : (ws : List Marked) → xs ≡ ys ++ (m ∷ ws) → zs ≡ ws ++ cs → Parts xs cs ys m zs

parts : (xs cs ys : List Marked) (m : Marked) (zs : List Marked) → xs ++ cs ≡ ys ++ (m ∷ zs) → Parts xs cs ys m zs
parts [] cs ys m zs e = behind ys refl e
parts (x ∷ xs) cs [] m zs e =
    let head : x ≡ m = cc in
    let tail : xs ++ cs ≡ zs = cc in
    ahead xs (ap (λ y. y ∷ xs) head) (sym tail)
parts (x ∷ xs) cs (y ∷ ys) m zs e =
    let head : x ≡ y = cc in
    let tail : xs ++ cs ≡ ys ++ (m ∷ zs) = cc in
    go head (parts xs cs ys m zs tail)
  where
    go : x ≡ y → Parts xs cs ys m zs → Parts (x ∷ xs) cs (y ∷ ys) m zs
    go h (behind ws p q) = behind ws (ap₂ (λ a l. a ∷ l) (sym h) p) q
    go h (ahead ws p q) = ahead ws (ap₂ (λ a l. a ∷ l) h p) q

-- the word keeps its place, or moves on with those behind the new one
record Placed (xs cs : List Marked) (n : Marked) (m : Marked) (ys : List Marked) : Type 0 where
  first : List Marked
  second : List Marked
  whole : xs ++ (n ∷ cs) ≡ first ++ (m ∷ second)
  at_is : length (spelled first) ≡ moved_on (length (spelled ys)) (length (spelled xs)) (length n.word + 1)

place : (xs cs ys : List Marked) (m : Marked) (zs : List Marked) (n : Marked) → Parts xs cs ys m zs → Placed xs cs n m ys
place xs cs ys m zs n (behind ws p q) =
    let far : length (spelled ys) ≡ length (spelled xs) + length (spelled ws) = ap (λ l. length (spelled l)) p ∙ spelled_both xs ws in
    record {
      first = xs ++ (n ∷ ws);
      second = zs;
      whole = ap (λ l. xs ++ (n ∷ l)) q ∙ sym (append_assoc xs (n ∷ ws) (m ∷ zs));
      at_is =
          omega (
            arith,
            spelled_both xs (n ∷ ws),
            spelled_more n ws,
            far,
            moved_after (length (spelled ys)) (length (spelled xs)) (length n.word + 1)
                (omega (arith, far)),
          );
    }
place xs cs ys m zs n (ahead ws p q) =
    let far : length (spelled xs) ≡ length (spelled ys) + (length m.word + 1 + length (spelled ws)) =
    ap (λ l. length (spelled l)) p ∙ (spelled_both ys (m ∷ ws) ∙ ap (λ k. length (spelled ys) + k) (spelled_more m ws)) in
    record {
      first = ys;
      second = ws ++ (n ∷ cs);
      whole = ap (λ l. l ++ (n ∷ cs)) p ∙ append_assoc ys (m ∷ ws) (n ∷ cs);
      at_is = sym (moved_before (length (spelled ys)) (length (spelled xs)) (length n.word + 1) (omega (arith, far)));
    }

-- the word under trial ends before the place, or stands behind it
ends_before : (xs cs ys : List Marked) (m : Marked) (zs : List Marked) → Parts xs cs ys m zs → length (spelled ys) < length (spelled xs)
    → length (spelled ys) + length m.word ≤ length (spelled xs)
ends_before xs cs ys m zs (behind ws p q) h = absurd (omega (arith, ap (λ l. length (spelled l)) p, spelled_both xs ws))
ends_before xs cs ys m zs (ahead ws p q) h = omega (arith, ap (λ l. length (spelled l)) p, spelled_both ys (m ∷ ws), spelled_more m ws)

-- ADDING

module _ {cells : List ℕ} {size : ℕ} (g : Work cells size) (area : List ℕ) (h : Held) (b : Busy g area h) where
  -- the words that the bytes in use spell
  pub busy_spells : Spells (take h.used area) (length (take h.used area)) (b.earlier_words ++ (current g.word ∷ b.later_words))
  busy_spells =
      let s = b.sound.spells in
      record {
        fits = omega arith;
        bytes = take_all (length (take h.used area)) (take h.used area) (omega arith) ∙ s.bytes;
        legible = s.legible;
        ordered = s.ordered;
      }

  pub busy_inside : h.word + h.letters + 1 ≤ h.used
  busy_inside =
      omega (
        arith,
        b.word_is,
        b.letters_is,
        spells_length area h.used (b.earlier_words ++ (current g.word ∷ b.later_words)) b.sound.spells,
        spelled_both b.earlier_words (current g.word ∷ b.later_words),
        spelled_more (current g.word) b.later_words,
      )

  pub word_joined : Joined g.table g.program g.word
  word_joined = b.sound.joined (current g.word) (Memᴰ.append_right b.earlier_words (Memᴰ.head refl))

  module _ (s : Swap) (sw : Swaps area cells h s) (at : ℕ)
      (f : Fits (b.earlier_words ++ (current g.word ∷ b.later_words)) (new_word area cells s) at) where
    split : Parts f.before f.after b.earlier_words (current g.word) b.later_words
    split = parts f.before f.after b.earlier_words (current g.word) b.later_words (sym f.parts)

    pub add_beside : Beside s at h.used
    add_beside =
        record {
          place = omega (arith, f.at_is, used_long);
          inside = omega (arith, busy_inside, sw.word_is, sw.letters_is);
          before = λ l.
              omega (
                arith,
                f.at_is,
                b.word_is,
                b.letters_is,
                sw.word_is,
                sw.letters_is,
                ends_before f.before f.after b.earlier_words
                    (current g.word) b.later_words split (omega (arith, l, f.at_is, b.word_is, sw.word_is)),
              );
        }
      where
        used_long : h.used ≡ length (spelled f.before) + length (spelled f.after)
        used_long =
            spells_length area h.used (b.earlier_words ++ (current g.word ∷ b.later_words)) b.sound.spells
            ∙ (ap (λ l. length (spelled l)) f.parts ∙ spelled_both f.before f.after)

    module _ (e : Entry) (ok : applied g.table g.word e ≡ some (new_word area cells s)) where
      new_joined : Joined g.table g.program (new_word area cells s)
      new_joined =
          joined_transitive g.table g.program g.word (new_word area cells s) word_joined
          (applied_joined g.table g.word (new_word area cells s) e ok)

      parted : Sound g.table g.program g.before area h.used (f.before ++ f.after) g.count
      parted = subst (λ l. Sound g.table g.program g.before area h.used l g.count) f.parts b.sound

      pub add_full : length area < h.used + (new_length s + 1) → TooLong g
      add_full l =
          too_long g.table g.program g.weighed g.before area h.used g.count f.before f.after parted (new_word area cells s) new_joined
          f.earlier_all f.later_all
          (omega (arith, l, new_length_lem area cells s sw.readable))

      pub add_grown : (after : List ℕ) → h.used + (new_length s + 1) ≤ length area → Opened area at h.used (new_word area cells s ++ (untried ∷ [])) after
          → Progress g (list_of b) (λ d. d ≡ e) after
          (record { word = moved_on h.word at (new_length s + 1); letters = h.letters; used = h.used + (new_length s + 1) })
      add_grown after room o =
          let long = new_length_lem area cells s sw.readable in
          let sound =
          grown_sound g.table g.program g.weighed g.before area h.used g.count f.before f.after parted (new_word area cells s) new_joined
          f.earlier_all f.later_all after
          (omega (arith, room, long)) (subst (λ k. Opened area k h.used (new_word area cells s ++ (untried ∷ [])) after) f.at_is o) in
          let t = place f.before f.after b.earlier_words (current g.word) b.later_words (current (new_word area cells s)) split in
          let used_is : h.used + (length (new_word area cells s) + 1) ≡ h.used + (new_length s + 1) = omega (arith, long) in
          finish after t.first t.second t.whole
          (sym (t.at_is ∙ (ap (λ k. moved_on (length (spelled b.earlier_words)) (length (spelled f.before)) (k + 1)) long
          ∙ (ap (λ k. moved_on k (length (spelled f.before)) (new_length s + 1)) (sym b.word_is) ∙ ap (λ k. moved_on h.word k (new_length s + 1))
          (sym f.at_is)))))
          (subst (λ k. Sound g.table g.program g.before after k (f.before ++ (current (new_word area cells s) ∷ f.after)) g.count) used_is sound)
        where
          finish : (after : List ℕ) (first second : List Marked) → f.before ++ (current (new_word area cells s) ∷ f.after) ≡ first
              ++ (current g.word ∷ second)
              → moved_on h.word at (new_length s + 1) ≡ length (spelled first)
              → Sound g.table g.program g.before after (h.used + (new_length s + 1)) (f.before ++ (current (new_word area cells s) ∷ f.after))
              g.count
              → Progress g (list_of b) (λ d. d ≡ e) after
              (record { word = moved_on h.word at (new_length s + 1); letters = h.letters; used = h.used + (new_length s + 1) })
          finish after first second whole word_is sound =
              record {
                busy = record {
                  earlier_words = first;
                  later_words = second;
                  sound = subst (λ l. Sound g.table g.program g.before after (h.used + (new_length s + 1)) l g.count) whole sound;
                  word_is = word_is;
                  letters_is = b.letters_is;
                };
                kept = λ x n.
                    subst (λ l. Memᴰ x (words l)) whole
                    (more_words f.before f.after (current (new_word area cells s)) x (subst (λ l. Memᴰ x (words l)) f.parts n));
                swaps = λ d w p q.
                    let same : some w ≡ some (new_word area cells s) = sym q ∙ (ap (applied g.table g.word) p ∙ ok) in
                    let w≡ : w ≡ new_word area cells s = cc in
                    subst (λ l. Memᴰ w (words l)) whole (Memᴰ.cast w≡ (more_there f.before f.after (current (new_word area cells s))));
              }

  -- a word that the order does not tell from a listed one is that one
  pub add_there : (v : Positive) → Listed (b.earlier_words ++ (current g.word ∷ b.later_words)) v → (e : Entry) → applied g.table g.word e ≡ some v
      → Progress g (list_of b) (λ d. d ≡ e) area h
  add_there v t e ok =
      let joined : Joined g.table g.program v =
      joined_transitive g.table g.program g.word v word_joined (applied_joined g.table g.word v e ok) in
      let weighs : (x : Positive) → Joined g.table g.program x → weigh g.table g.program ≡ weigh g.table x =
      λ x i. joined_weight g.table (weight_of g.table) (checked_homogeneous g.table g.weighed.even) g.program x i in
      let same : v ≡ t.one.word =
      same_weight_same (weight_of g.table) (λ a. omega arith) v t.one.word
      (sym (weighs v joined) ∙ weighs t.one.word (b.sound.joined t.one t.among)) t.not_before t.not_after in
      record {
        busy = b;
        kept = λ x n. n;
        swaps = λ d w p q.
            let told : some w ≡ some v = sym q ∙ (ap (applied g.table g.word) p ∙ ok) in
            let w≡ : w ≡ t.one.word = cc in
            Memᴰ.cast w≡ (word_member (b.earlier_words ++ (current g.word ∷ b.later_words)) t.one t.among);
      }
