-- Words spelled one after the other: where each begins and ends, and how it is found by any of its bytes.
use mathlib.Core.Path.{◌≡◌, refl, sym, ap, subst, ◌∙◌}
use mathlib.Core.Logic.{◌⊎◌, inl, inr}
use mathlib.Core.List.Memᴰ
use mathlib.Core.List.{List, [], ◌∷◌, ◌++◌, append_assoc, append-nil, Memᴰ}
use mathlib.Core.Bool.{true, false}
use Prim.Native.Nat.{ℕ, ◌+◌, ◌-◌, ◌≤◌, ◌<◌}
use native.Mathlib.Omega.{arith}
use native.Mathlib.Decide.{dec_le, dec_lt}
use lib.ListN.{length, take, drop, get_or, length-append, get_or-append}
use lib.Seq.{get_or-take, get_or-append-add, ext_get_or, length-take-le}
use Rattle.model.specs.Word.{Positive}
use Rattle.model.specs.Ways.{earlier, Ordered}
use Rattle.model.proofs.Listing.{earlier_transitive, ordered_rest, ordered_after}
use Rattle.areas.proofs.Parts.{taken_length}
use Rattle.spans.specs.Ends.{is_ending, StartFound, HasEnd, EndFound}
use Rattle.spans.proofs.Runs.{WordAt, start_is, has_end, end_is}
use Rattle.ways.specs.Area.{Marked, entry_bytes, spelled, words, Legible, Spells, Fits, Listed}
use Rattle.ways.proofs.NewWords.{part_at}

pub spelled_append : (xs ys : List Marked) → spelled (xs ++ ys) ≡ spelled xs ++ spelled ys
spelled_append [] ys = refl
spelled_append (x ∷ xs) ys = ap (λ l. entry_bytes x ++ l) (spelled_append xs ys) ∙ sym (append_assoc (entry_bytes x) (spelled xs) (spelled ys))

pub entry_length : (m : Marked) → length (entry_bytes m) ≡ length m.word + 1
entry_length m = length-append m.word (m.mark ∷ [])

pub spelled_more : (m : Marked) (ms : List Marked) → length (spelled (m ∷ ms)) ≡ length m.word + 1 + length (spelled ms)
spelled_more m ms = length-append (entry_bytes m) (spelled ms) ∙ ap (λ k. k + length (spelled ms)) (entry_length m)

pub spelled_both : (xs ys : List Marked) → length (spelled (xs ++ ys)) ≡ length (spelled xs) + length (spelled ys)
spelled_both xs ys = ap length (spelled_append xs ys) ∙ length-append (spelled xs) (spelled ys)

-- the last byte before a word, if there is one, ends another
spelled_last : (ms : List Marked) → ((m : Marked) → Memᴰ m ms → Legible m) → 0 < length (spelled ms)
    → is_ending (get_or (spelled ms) (length (spelled ms) - 1) 0) ≡ true
spelled_last [] l h = absurd (omega arith)
spelled_last (m ∷ ms) l h = go (dec_lt 0 (length (spelled ms))) (spelled_last ms (λ x n. l x (Memᴰ.tail n)))
  where
    go : Dec (0 < length (spelled ms)) → (0 < length (spelled ms) → is_ending (get_or (spelled ms) (length (spelled ms) - 1) 0) ≡ true)
        → is_ending (get_or (spelled (m ∷ ms)) (length (spelled (m ∷ ms)) - 1) 0) ≡ true
    go (yes p) rest =
        let at : length (spelled (m ∷ ms)) - 1 ≡ length (entry_bytes m) + (length (spelled ms) - 1) = omega
        (arith, length-append (entry_bytes m) (spelled ms)) in
        ap (λ i. is_ending (get_or (spelled (m ∷ ms)) i 0)) at
        ∙ (ap is_ending (get_or-append-add (entry_bytes m) (spelled ms) (length (spelled ms) - 1) 0) ∙ rest p)
    go (no p) rest =
        let at : length (spelled (m ∷ ms)) - 1 ≡ length m.word + 0 = omega (arith, spelled_more m ms) in
        ap (λ i. is_ending (get_or (spelled (m ∷ ms)) i 0)) at
        ∙ (ap is_ending (get_or-append (entry_bytes m) (spelled ms) 0 (length m.word + 0) (omega (arith, entry_length m)))
        ∙ (ap is_ending (get_or-append-add m.word (m.mark ∷ []) 0 0) ∙ (l m (Memᴰ.head refl)).ends))

-- A WORD AT ITS PLACE

word_part : (area : List ℕ) (start : ℕ) (w : Positive) → WordAt area start w → take (length w) (drop start area) ≡ w
word_part area start w h =
    let long : length (take (length w) (drop start area)) ≡ length w = taken_length area start (length w) (omega (arith, h.inside)) in
    ext_get_or 0 (take (length w) (drop start area)) w long
    (λ i k. let near : i < length w = omega (arith, long, k) in part_at area start (length w) i near ∙ h.letters i near)

-- the byte at an index of what is spelled
spelled_byte : (area : List ℕ) (used : ℕ) (ms : List Marked) → Spells area used ms → (i : ℕ) → i < used → get_or area i 0 ≡ get_or (spelled ms) i 0
spelled_byte area used ms s i h = sym (get_or-take used area i 0 h) ∙ ap (λ l. get_or l i 0) s.bytes

pub spells_length : (area : List ℕ) (used : ℕ) (ms : List Marked) → Spells area used ms → used ≡ length (spelled ms)
spells_length area used ms s = sym (length-take-le used area s.fits) ∙ ap length s.bytes

-- a listed word stands after those before it
module _ (area : List ℕ) (used : ℕ) (pre : List Marked) (m : Marked) (post : List Marked) (s : Spells area used (pre ++ (m ∷ post))) where
  legible : Legible m
  legible = s.legible m (Memᴰ.append_right pre (Memᴰ.head refl))

  long : used ≡ length (spelled pre) + (length m.word + 1 + length (spelled post))
  long = spells_length area used (pre ++ (m ∷ post)) s ∙ (spelled_both pre (m ∷ post) ∙ ap (λ k. length (spelled pre) + k) (spelled_more m post))

  byte : (i : ℕ) → i < length m.word + 1 → get_or area (length (spelled pre) + i) 0 ≡ get_or (entry_bytes m ++ spelled post) i 0
  byte i h =
      spelled_byte area used (pre ++ (m ∷ post)) s (length (spelled pre) + i) (omega (arith, long))
      ∙ (ap (λ l. get_or l (length (spelled pre) + i) 0) (spelled_append pre (m ∷ post)) ∙ get_or-append-add (spelled pre) (spelled (m ∷ post)) i 0)

  mark_at : get_or area (length (spelled pre) + length m.word) 0 ≡ m.mark
  mark_at =
      let at : length m.word ≡ length m.word + 0 = omega arith in
      byte (length m.word) (omega arith)
      ∙ (get_or-append (entry_bytes m) (spelled post) 0 (length m.word) (omega (arith, entry_length m))
      ∙ (ap (λ i. get_or (entry_bytes m) i 0) at ∙ get_or-append-add m.word (m.mark ∷ []) 0 0))

  pub word_at : WordAt area (length (spelled pre)) m.word
  word_at =
      record {
        inside = omega (arith, s.fits, long);
        letters = λ i k.
            byte i (omega arith)
            ∙ (get_or-append (entry_bytes m) (spelled post) 0 i (omega (arith, entry_length m)) ∙ get_or-append m.word (m.mark ∷ []) 0 i k);
        plain = legible.letters;
        ends = ap is_ending mark_at ∙ legible.ends;
      }

  pub word_begins : 0 < length (spelled pre) → is_ending (get_or area (length (spelled pre) - 1) 0) ≡ true
  word_begins h =
      ap is_ending
      (spelled_byte area used (pre ++ (m ∷ post)) s (length (spelled pre) - 1) (omega (arith, long))
      ∙ (ap (λ l. get_or l (length (spelled pre) - 1) 0) (spelled_append pre (m ∷ post))
      ∙ get_or-append (spelled pre) (spelled (m ∷ post)) 0 (length (spelled pre) - 1) (omega arith)))
      ∙ spelled_last pre (λ x n. s.legible x (Memᴰ.append_left (m ∷ post) n)) h

-- the word that has a byte
pub record Holding (ms : List Marked) (k : ℕ) : Type 0 where
  pub pre : List Marked
  pub one : Marked
  pub post : List Marked
  pub parts : ms ≡ pre ++ (one ∷ post)
  pub from : length (spelled pre) ≤ k
  pub to : k ≤ length (spelled pre) + length one.word

pub locate : (ms : List Marked) (k : ℕ) → k < length (spelled ms) → Holding ms k
locate [] k h = absurd (omega arith)
locate (m ∷ ms) k h = go (dec_le k (length m.word)) (λ p. locate ms (k - (length m.word + 1)) (omega (arith, spelled_more m ms)))
  where
    go : Dec (k ≤ length m.word) → (length m.word < k → Holding ms (k - (length m.word + 1))) → Holding (m ∷ ms) k
    go (yes p) rest = record { pre = []; one = m; post = ms; parts = refl; from = omega arith; to = omega arith }
    go (no p) rest =
        let t = rest (omega arith) in
        let from = t.from in
        let to = t.to in
        record {
          pre = m ∷ t.pre;
          one = t.one;
          post = t.post;
          parts = ap (λ l. m ∷ l) t.parts;
          from = omega (arith, spelled_more m t.pre);
          to = omega (arith, spelled_more m t.pre);
        }

-- ORDERED WORDS

ordered_tail : (pre ms : List Marked) → Ordered (words (pre ++ ms)) → Ordered (words ms)
ordered_tail [] ms o = o
ordered_tail (p ∷ pre) ms o = ordered_tail pre ms (ordered_rest p.word (words (pre ++ ms)) o)

pub all_after : (pre : List Marked) (m : Marked) (post : List Marked) → Ordered (words (pre ++ (m ∷ post))) → (x : Marked) → Memᴰ x post
    → earlier m.word x.word ≡ true
all_after pre m post o x n = ordered_after m.word (words post) (ordered_tail pre (m ∷ post) o) x.word (Memᴰ.map (λ m. m.word) n)

pub all_before : (pre : List Marked) (m : Marked) (post : List Marked) → Ordered (words (pre ++ (m ∷ post))) → (x : Marked) → Memᴰ x pre
    → earlier x.word m.word ≡ true
all_before [] m post o x n = absurd (Memᴰ.not-nil n)
all_before (p ∷ pre) m post o x n = go (Memᴰ.cases_cons n) (all_before pre m post (ordered_rest p.word (words (pre ++ (m ∷ post))) o) x)
  where
    go : (x ≡ p) ⊎ Memᴰ x pre → (Memᴰ x pre → earlier x.word m.word ≡ true) → earlier x.word m.word ≡ true
    go (inl e) rest =
        ap (λ y. earlier y.word m.word) e
        ∙ ordered_after p.word (words (pre ++ (m ∷ post))) o m.word (Memᴰ.map (λ m. m.word) (Memᴰ.append_right pre (Memᴰ.head refl)))
    go (inr k) rest = rest k

-- HALVING

-- the words come before v up to one place, and after v from another on
pub record Between (ms : List Marked) (v : Positive) (low high : ℕ) : Type 0 where
  pub before : List Marked
  pub middle : List Marked
  pub after : List Marked
  pub parts : ms ≡ before ++ (middle ++ after)
  pub low_is : low ≡ length (spelled before)
  pub high_is : high ≡ low + length (spelled middle)
  pub earlier_all : (m : Marked) → Memᴰ m before → earlier m.word v ≡ true
  pub later_all : (m : Marked) → Memᴰ m after → earlier v m.word ≡ true

module _ (area : List ℕ) (used : ℕ) (ms : List Marked) (s : Spells area used ms) (v : Positive) where
  pub between_all : Between ms v 0 used
  between_all =
      record {
        before = [];
        middle = ms;
        after = [];
        parts = sym (append-nil ms);
        low_is = refl;
        high_is = omega (arith, spells_length area used ms s);
        earlier_all = λ m n. absurd (Memᴰ.not-nil n);
        later_all = λ m n. absurd (Memᴰ.not-nil n);
      }

  -- the word that has a byte of the middle part
  pub record Halving (low high at : ℕ) (b : Between ms v low high) : Type 0 where
    pub pre : List Marked
    pub one : Marked
    pub post : List Marked
    pub parts : b.middle ≡ pre ++ (one ∷ post)
    pub start : ℕ
    pub start_is : start ≡ low + length (spelled pre)
    pub from : start ≤ at
    pub to : at ≤ start + length one.word
    pub until : start + length one.word + 1 ≤ high
    pub there : WordAt area start one.word
    pub begins : 0 < start → is_ending (get_or area (start - 1) 0) ≡ true

  whole : (low high : ℕ) (b : Between ms v low high) (pre post : List Marked) (one : Marked) → b.middle ≡ pre ++ (one ∷ post)
      → ms ≡ (b.before ++ pre) ++ (one ∷ (post ++ b.after))
  whole low high b pre post one e =
      b.parts
      ∙ (ap (λ l. b.before ++ (l ++ b.after)) e
      ∙ (ap (λ l. b.before ++ l) (append_assoc pre (one ∷ post) b.after) ∙ sym (append_assoc b.before pre (one ∷ (post ++ b.after)))))

  pub halve : (low high at : ℕ) (b : Between ms v low high) → low ≤ at → at < high → Halving low high at b
  halve low high at b l h =
      let t = locate b.middle (at - low) (omega (arith, b.high_is)) in
      let from = t.from in
      let to = t.to in
      let place : length (spelled (b.before ++ t.pre)) ≡ low + length (spelled t.pre) = omega (arith, spelled_both b.before t.pre, b.low_is) in
      let spells : Spells area used ((b.before ++ t.pre) ++ (t.one ∷ (t.post ++ b.after))) =
      subst (Spells area used) (whole low high b t.pre t.post t.one t.parts) s in
      record {
        pre = t.pre;
        one = t.one;
        post = t.post;
        parts = t.parts;
        start = low + length (spelled t.pre);
        start_is = refl;
        from = omega arith;
        to = omega arith;
        until = omega (arith, b.high_is, ap (λ l. length (spelled l)) t.parts, spelled_both t.pre (t.one ∷ t.post), spelled_more t.one t.post);
        there = subst (λ p. WordAt area p t.one.word) place (word_at area used (b.before ++ t.pre) t.one (t.post ++ b.after) spells);
        begins =
            subst (λ p. 0 < p → is_ending (get_or area (p - 1) 0) ≡ true) place
            (word_begins area used (b.before ++ t.pre) t.one (t.post ++ b.after) spells);
      }

  module _ (low high at : ℕ) (b : Between ms v low high) (t : Halving low high at b) where
    in_order : Ordered (words ((b.before ++ t.pre) ++ (t.one ∷ (t.post ++ b.after))))
    in_order = subst (λ l. Ordered (words l)) (whole low high b t.pre t.post t.one t.parts) s.ordered

    pub halve_same : earlier v t.one.word ≡ false → earlier t.one.word v ≡ false → Listed ms v
    halve_same p q =
        record {
          one = t.one;
          among = subst (Memᴰ t.one) (sym (whole low high b t.pre t.post t.one t.parts))
              (Memᴰ.append_right (b.before ++ t.pre) (Memᴰ.head refl));
          not_before = p;
          not_after = q;
        }

    pub halve_earlier : earlier v t.one.word ≡ true → Between ms v low t.start
    halve_earlier p =
        record {
          before = b.before;
          middle = t.pre;
          after = t.one ∷ (t.post ++ b.after);
          parts = whole low high b t.pre t.post t.one t.parts ∙ append_assoc b.before t.pre (t.one ∷ (t.post ++ b.after));
          low_is = b.low_is;
          high_is = t.start_is;
          earlier_all = b.earlier_all;
          later_all = λ m n. go m (Memᴰ.cases_cons n);
        }
      where
        go : (m : Marked) → (m ≡ t.one) ⊎ Memᴰ m (t.post ++ b.after) → earlier v m.word ≡ true
        go m (inl e) = ap (λ y. earlier v y.word) e ∙ p
        go m (inr n) = earlier_transitive v t.one.word m.word p (all_after (b.before ++ t.pre) t.one (t.post ++ b.after) in_order m n)

    pub halve_later : earlier t.one.word v ≡ true → Between ms v (t.start + length t.one.word + 1) high
    halve_later p =
        record {
          before = (b.before ++ t.pre) ++ (t.one ∷ []);
          middle = t.post;
          after = b.after;
          parts = whole low high b t.pre t.post t.one t.parts ∙ sym (append_assoc (b.before ++ t.pre) (t.one ∷ []) (t.post ++ b.after));
          low_is = omega (
            arith,
            spelled_both (b.before ++ t.pre) (t.one ∷ []),
            spelled_more t.one [],
            spelled_both b.before t.pre,
            b.low_is,
            t.start_is,
          );
          high_is = omega (
            arith,
            b.high_is,
            ap (λ l. length (spelled l)) t.parts,
            spelled_both t.pre (t.one ∷ t.post),
            spelled_more t.one t.post,
            t.start_is,
          );
          earlier_all = λ m n. go m (Memᴰ.append_cases (b.before ++ t.pre) n);
          later_all = b.later_all;
        }
      where
        go : (m : Marked) → Memᴰ m (b.before ++ t.pre) ⊎ Memᴰ m (t.one ∷ []) → earlier m.word v ≡ true
        go m (inl n) = earlier_transitive m.word t.one.word v (all_before (b.before ++ t.pre) t.one (t.post ++ b.after) in_order m n) p
        go m (inr n) = ap (λ y. earlier y.word v) (Memᴰ.eq_of_singleton n) ∙ p

  -- nothing is left between
  pub between_none : (low high : ℕ) (b : Between ms v low high) → high ≤ low → Fits ms v low
  between_none low high b h = go b.middle refl
    where
      go : (l : List Marked) → b.middle ≡ l → Fits ms v low
      go [] e =
          record {
            before = b.before;
            after = b.after;
            parts = b.parts ∙ ap (λ l. b.before ++ (l ++ b.after)) e;
            at_is = b.low_is;
            earlier_all = b.earlier_all;
            later_all = b.later_all;
          }
      go (m ∷ l) e = absurd (omega (arith, b.high_is, ap (λ l. length (spelled l)) e, spelled_more m l))

-- ONE STEP OF THE SEARCH

module _ (area : List ℕ) (used : ℕ) (ms : List Marked) (s : Spells area used ms) (v : Positive) (low high at : ℕ) (b : Between ms v low high) (l : low ≤ at)
    (h : at < high) where
  half : Halving area used ms s v low high at b
  half = halve area used ms s v low high at b l h

  -- the byte ends somewhere
  pub step_ends : HasEnd area at
  step_ends = has_end area half.start half.one.word half.there at half.to

  module _ (start end : ℕ) (f : StartFound area low at start) (e : EndFound area at end) where
    starts : start ≡ half.start
    starts = start_is area half.start half.one.word half.there half.begins low at start (omega (arith, half.start_is)) half.from half.to f

    ending : end ≡ half.start + length half.one.word
    ending = end_is area half.start half.one.word half.there at end half.from half.to e

    pub step_inside : end + 1 ≤ high
    step_inside = omega (arith, ending, half.until)

    part : take (end - start) (drop start area) ≡ half.one.word
    part =
        let many : end - start ≡ length half.one.word = omega (arith, starts, ending) in
        ap (λ k. take k (drop start area)) many
        ∙ (ap (λ k. take (length half.one.word) (drop k area)) starts ∙ word_part area half.start half.one.word half.there)

    pub step_same : earlier v (take (end - start) (drop start area)) ≡ false → earlier (take (end - start) (drop start area)) v ≡ false → Listed ms v
    step_same p q = halve_same area used ms s v low high at b half (sym (ap (earlier v) part) ∙ p) (sym (ap (λ w. earlier w v) part) ∙ q)

    pub step_earlier : earlier v (take (end - start) (drop start area)) ≡ true → Between ms v low start
    step_earlier p = subst (Between ms v low) (sym starts) (halve_earlier area used ms s v low high at b half (sym (ap (earlier v) part) ∙ p))

    pub step_later : earlier (take (end - start) (drop start area)) v ≡ true → Between ms v (end + 1) high
    step_later p =
        let next : half.start + length half.one.word + 1 ≡ end + 1 = omega (arith, ending) in
        subst (λ k. Between ms v k high) next (halve_later area used ms s v low high at b half (sym (ap (λ w. earlier w v) part) ∙ p))
