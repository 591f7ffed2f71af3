-- Moves laid out in an area: copied, repeated, undone, and one word after another.
use mathlib.Core.Path.{◌≡◌, refl, sym, ap, subst, ◌∙◌}
use mathlib.Core.Logic.{⊎_elim}
use mathlib.Core.List.{List, [], ◌∷◌, ◌++◌, append_assoc, append-nil}
use mathlib.Core.Bool.{Bool, true, false}
use Prim.Native.Nat.{ℕ, zero, suc, ◌+◌, ◌-◌, ◌*◌, ◌≤◌, ◌<◌}
use native.Mathlib.Nat.{suc-mul, zero-mul, one-mul, le_of_mul-le-mul_right, mul-le-mul_right}
use native.Mathlib.Omega.{arith}
use lib.ListN.{length, take, drop, set, length-append, length-drop, take-append-drop}
use lib.Seq.{take_at, drop_at, drop-drop, length-take-le}
use Rattle.model.specs.Word.{forward, Word, inverse}
use Rattle.model.specs.Areas.{written}
use Rattle.model.specs.Notation.{repeated, undone}
use Rattle.model.proofs.Numbers.{below_or}
use Rattle.areas.proofs.Parts.{taken_length}
use Rattle.bits.proofs.Appending.{written_more, wrote_byte}
use Rattle.engine.specs.Gap.{letters}
use Rattle.engine.specs.Words.{Inverted}
use Rattle.engine.proofs.Letters.{letter_forward, letters_append, letters_cons, letters_nil, length_letters}
use Rattle.importing.specs.Laying.{WordPut, copies, Repeatable, Repeats, Finishes}

-- COPIES

-- what stands in an area, put where it stands
written_same : (a : List ℕ) (from count : ℕ) → from + count ≤ length a → a ≡ written a from (take count (drop from a))
written_same a from count inside =
    sym (take-append-drop from a)
    ∙ ap (λ l. take from a ++ l) (sym (take-append-drop count (drop from a)) ∙ ap (λ l. take count (drop from a) ++ l) (drop-drop count from a))
    ∙ ap (λ k. take from a ++ (take count (drop from a) ++ drop (from + k) a)) (sym (taken_length a from count inside))

-- what was put from a place on stands there
pub put_stands : (a : List ℕ) (from : ℕ) (b : List ℕ) → from ≤ length a → (n : ℕ) → n ≡ length b → take n (drop from (written a from b)) ≡ b
put_stands a from b inside n e =
    ap (take n) (drop_at (take from a) (b ++ drop (from + length b) a) from (length-take-le from a inside)) ∙ take_at b (drop (from + length b) a) n (sym e)

-- bytes so many times, and once more
copies_more : (k : ℕ) (b : List ℕ) → copies k b ++ b ≡ copies (suc k) b
copies_more zero b = sym (append-nil b)
copies_more (suc k) b = append_assoc b (copies k b) b ∙ ap (λ l. b ++ l) (copies_more k b)

length_copies : (k : ℕ) (b : List ℕ) → length (copies k b) ≡ k * length b
length_copies zero b = sym (zero-mul (length b))
length_copies (suc k) b = length-append b (copies k b) ∙ omega (arith, length_copies k b, suc-mul k (length b))

pub letters_copies : (k : ℕ) (b : List ℕ) → letters (copies k b) ≡ repeated k (letters b)
letters_copies zero b = letters_nil
letters_copies (suc k) b = letters_append b (copies k b) ∙ ap (λ w. letters b ++ w) (letters_copies k b)

-- the first of copies
first_copy : (a : List ℕ) (from : ℕ) (b : List ℕ) (k : ℕ) → from ≤ length a → take (length b) (drop from (written a from (copies (suc k) b))) ≡ b
first_copy a from b k inside =
    ap (take (length b)) (drop_at (take from a) (copies (suc k) b ++ drop (from + length (copies (suc k) b)) a) from (length-take-le from a inside)
    ∙ append_assoc b (copies k b) (drop (from + length (copies (suc k) b)) a))
    ∙ take_at b (copies k b ++ drop (from + length (copies (suc k) b)) a) (length b) refl

-- REPEATING

-- so many copies stand from `from` on, and `at` is behind them
pub record Copied (before : List ℕ) (from count end : ℕ) (after : List ℕ) (at : ℕ) : Type 0 where
  pub earlier : ℕ
  pub at_is : at ≡ from + suc earlier * count
  pub inside : at ≤ end
  pub put : after ≡ written before from (copies (suc earlier) (take count (drop from before)))

module _ (a : List ℕ) (from count end times : ℕ) (some : 1 ≤ count) (ends : end ≡ from + times * count) (room : end ≤ length a) where
  module _ (once : 1 ≤ times) where
    pub first_inside : from + count ≤ end
    first_inside = omega (arith, mul-le-mul_right count once, ends, one-mul count)

    pub copied_once : Copied a from count end a (from + count)
    copied_once = record {
      earlier = 0;
      at_is = omega (arith, one-mul count);
      inside = first_inside;
      put = written_same a from count (omega (arith, first_inside, room)) ∙ ap (written a from) (sym (append-nil (take count (drop from a))));
    }

  -- there is room for one copy more
  pub copied_room : (cur : List ℕ) (at : ℕ) → Copied a from count end cur at → at < end → at + count ≤ end
  copied_room cur at c more = omega (arith, c.at_is, ends, mul-le-mul_right count fewer, suc-mul (suc c.earlier) count)
    where
      fewer : suc (suc c.earlier) ≤ times
      fewer = ⊎_elim (λ h. omega (arith, h)) (λ h. absurd (omega (arith, mul-le-mul_right count h, c.at_is, ends, more))) (below_or (suc c.earlier) times)

  pub copied_more : (cur next : List ℕ) (at : ℕ) → Copied a from count end cur at → at < end → next ≡ written cur at (take count (drop from cur))
      → Copied a from count end next (at + count)
  copied_more cur next at c more e = record {
    earlier = suc k;
    at_is = omega (arith, c.at_is, suc-mul (suc k) count);
    inside = copied_room cur at c more;
    put =
        e ∙ ap (written cur at) copy
        ∙ ap (λ l. written l at b) c.put
        ∙ ap (λ n. written (written a from (copies (suc k) b)) n b) {x = at} {y = from + length (copies (suc k) b)} (omega (arith, c.at_is, all_long))
        ∙ written_more a from (copies (suc k) b) b (omega (arith, all_long, c.at_is, c.inside, room))
        ∙ ap (written a from) (copies_more (suc k) b);
  }
    where
      k : ℕ
      k = c.earlier

      b : List ℕ
      b = take count (drop from a)

      count_is : length b ≡ count
      count_is = taken_length a from count (omega (arith, c.at_is, c.inside, room, suc-mul k count))

      all_long : length (copies (suc k) b) ≡ suc k * count
      all_long = length_copies (suc k) b ∙ ap (λ n. suc k * n) count_is

      copy : take count (drop from cur) ≡ b
      copy =
          ap (λ l. take count (drop from l)) c.put
          ∙ ap (λ n. take n (drop from (written a from (copies (suc k) b)))) (sym count_is)
          ∙ first_copy a from b k (omega (arith, c.at_is, c.inside, room))

  -- at the end all copies stand
  pub copied_all : (cur : List ℕ) (at : ℕ) → Copied a from count end cur at → end ≤ at → (k : ℕ) → end ≡ from + k * count
      → cur ≡ written a from (copies k (take count (drop from a)))
  copied_all cur at c past k e = c.put ∙ ap (λ n. written a from (copies n (take count (drop from a))))
      (same (suc c.earlier) k (omega (arith, c.at_is, c.inside, past, e)))
    where
      same : (m n : ℕ) → m * count ≡ n * count → m ≡ n
      same m n p =
          let low : m ≤ n = le_of_mul-le-mul_right (omega (arith, p)) some in
          let high : n ≤ m = le_of_mul-le-mul_right (omega (arith, p)) some in
          omega (arith, low, high)

-- WORDS

pub put_nothing : (a : List ℕ) (from : ℕ) → from ≤ length a → WordPut a from [] a
put_nothing a from inside = record {
  bytes = [];
  mean = letters_nil;
  inside = omega (arith, inside);
  put = sym (ap (λ n. take from a ++ drop n a) {x = from + 0} {y = from} (omega arith) ∙ take-append-drop from a);
}

-- one move
pub put_move : (a : List ℕ) (from x : ℕ) → from < length a → x < 128 → WordPut a from (forward x ∷ []) (set a from x)
put_move a from x inside low = record {
  bytes = x ∷ [];
  mean = letters_cons x [] ∙ ap (λ l. l ∷ letters []) (letter_forward x low) ∙ ap (λ w. forward x ∷ w) letters_nil;
  inside = omega (arith, inside);
  put = wrote_byte a from x inside;
}

-- as many bytes as letters
pub put_long : (a : List ℕ) (from : ℕ) (w : Word) (b : List ℕ) (l : WordPut a from w b) → length l.bytes ≡ length w
put_long a from w b l = sym (length_letters l.bytes) ∙ ap length l.mean

length_written : (a : List ℕ) (from : ℕ) (b : List ℕ) → from + length b ≤ length a → length (written a from b) ≡ length a
length_written a from b inside =
    length-append (take from a) (b ++ drop (from + length b) a)
    ∙ omega (arith, length-take-le from a (omega (arith, inside)), length-append b (drop (from + length b) a), length-drop (from + length b) a, inside)

pub put_kept : (a : List ℕ) (from : ℕ) (w : Word) (b : List ℕ) → WordPut a from w b → length b ≡ length a
put_kept a from w b l = ap length l.put ∙ length_written a from l.bytes l.inside

-- one word after another
pub put_append : (a b c : List ℕ) (from : ℕ) (u v : Word) → WordPut a from u b → WordPut b (from + length u) v c → WordPut a from (u ++ v) c
put_append a b c from u v l m = record {
  bytes = l.bytes ++ m.bytes;
  mean = letters_append l.bytes m.bytes ∙ ap (λ w. w ++ letters m.bytes) l.mean ∙ ap (λ w. u ++ w) m.mean;
  inside = omega (arith, length-append l.bytes m.bytes, m.inside, put_kept a from u b l, put_long a from u b l);
  put =
      m.put
      ∙ ap (λ x. written x (from + length u) m.bytes) l.put
      ∙ ap (λ n. written (written a from l.bytes) (from + n) m.bytes) (sym (put_long a from u b l))
      ∙ written_more a from l.bytes m.bytes l.inside;
}

-- bytes put over others that were put from the same place on
written_over : (a : List ℕ) (from : ℕ) (x y : List ℕ) → from + length y ≤ length a → length x ≤ length y → written (written a from x) from y ≡ written a from y
written_over a from x y inside fewer =
    ap (λ l. l ++ (y ++ drop (from + length y) (written a from x))) (take_at (take from a) (x ++ drop (from + length x) a) from front)
    ∙ ap (λ l. take from a ++ (y ++ l)) rest
  where
    front : length (take from a) ≡ from
    front = length-take-le from a (omega (arith, inside))

    more : ℕ
    more = length y - length x

    rest : drop (from + length y) (written a from x) ≡ drop (from + length y) a
    rest =
        sym (drop-drop (length y) from (written a from x))
        ∙ ap (drop (length y)) (drop_at (take from a) (x ++ drop (from + length x) a) from front)
        ∙ ap (λ n. drop n (x ++ drop (from + length x) a)) {x = length y} {y = length x + more} (omega (arith, fewer))
        ∙ sym (drop-drop more (length x) (x ++ drop (from + length x) a))
        ∙ ap (drop more) (drop_at x (drop (from + length x) a) (length x) refl)
        ∙ drop-drop more (from + length x) a
        ∙ ap (λ n. drop n a) {x = from + length x + more} {y = from + length y} (omega (arith, fewer))

-- a word that takes the place of a shorter one
pub put_over : (a b c : List ℕ) (from : ℕ) (u v : Word) → WordPut a from u b → WordPut b from v c → length u ≤ length v → WordPut a from v c
put_over a b c from u v l m fewer = record {
  bytes = m.bytes;
  mean = m.mean;
  inside = omega (arith, m.inside, put_kept a from u b l);
  put =
      m.put ∙ ap (λ x. written x from m.bytes) l.put
      ∙ written_over a from l.bytes m.bytes (omega (arith, m.inside, put_kept a from u b l))
      (omega (arith, put_long a from u b l, put_long b from v c m, fewer));
}

-- what stands of a word that was laid out
pub put_word : (a : List ℕ) (from : ℕ) (w : Word) (b : List ℕ) → WordPut a from w b → (n : ℕ) → n ≡ length w → letters (take n (drop from b)) ≡ w
put_word a from w b l n e =
    ap (λ x. letters (take n (drop from x))) l.put
    ∙ ap letters (put_stands a from l.bytes (omega (arith, l.inside)) n (e ∙ sym (put_long a from w b l)))
    ∙ l.mean

-- BODIES

module _ (a : List ℕ) (from count end : ℕ) (inside : from + count ≤ length a) (room : end ≤ length a) (k : ℕ) (ends : end ≡ from + k * count) where
  all_bytes : length (copies k (take count (drop from a))) ≡ k * count
  all_bytes = length_copies k (take count (drop from a)) ∙ ap (λ n. k * n) (taken_length a from count inside)

  -- a body that stands as often as its count says
  pub put_copies : (after : List ℕ) → after ≡ written a from (copies k (take count (drop from a)))
      → WordPut a from (repeated k (letters (take count (drop from a)))) after
  put_copies after e = record {
    bytes = copies k (take count (drop from a));
    mean = letters_copies k (take count (drop from a));
    inside = omega (arith, all_bytes, ends, room);
    put = e;
  }

  -- and is undone
  pub put_undone : (mid part after : List ℕ) → mid ≡ written a from (copies k (take count (drop from a))) → Inverted (drop from mid) (end - from) part
      → after ≡ take from mid ++ part
      → WordPut a from (inverse (repeated k (letters (take count (drop from a))))) after
  put_undone mid part after e inverted put = record {
    bytes = take n part;
    mean = inverted.inverted ∙ ap inverse (ap letters stands ∙ letters_copies k b);
    inside = omega (arith, length-take-le n part long, all_bytes, ends, room);
    put =
        put ∙ ap (λ l. l ++ part) front
        ∙ ap (λ l. take from a ++ l) (sym (take-append-drop n part) ∙ ap (λ l. take n part ++ l) (inverted.rest ∙ behind))
        ∙ ap (λ m. take from a ++ (take n part ++ drop (from + m) a)) (sym (length-take-le n part long));
  }
    where
      b : List ℕ
      b = take count (drop from a)

      c : List ℕ
      c = copies k b

      n : ℕ
      n = end - from

      n_is : n ≡ length c
      n_is = omega (arith, all_bytes, ends)

      reaches : from ≤ length a
      reaches = omega (arith, inside)

      stands : take n (drop from mid) ≡ c
      stands = ap (λ l. take n (drop from l)) e ∙ put_stands a from c reaches n n_is

      front : take from mid ≡ take from a
      front = ap (take from) e ∙ take_at (take from a) (c ++ drop (from + length c) a) from (length-take-le from a reaches)

      behind : drop n (drop from mid) ≡ drop (from + n) a
      behind =
          ap (λ l. drop n (drop from l)) e
          ∙ ap (drop n) (drop_at (take from a) (c ++ drop (from + length c) a) from (length-take-le from a reaches))
          ∙ drop_at c (drop (from + length c) a) n (sym n_is)
          ∙ ap (λ m. drop (from + m) a) (sym n_is)

      long : n ≤ length part
      long = omega (arith, inverted.same_length, length-drop from mid, ap length e, length_written a from c (omega (arith, all_bytes, ends, room)), room)

-- what `finish` promises, of an area that a body stands in
module _ (a : List ℕ) (from count end : ℕ) (r : Repeatable from count end (length a)) where
  pub body_inside : from + count ≤ length a
  body_inside = omega (arith, first_inside a from count end r.times r.some r.ends r.inside r.once, r.inside)

  pub finished_plain : (minus : Bool) → minus ≡ false → (after : List ℕ) → Repeats a from count end after → Finishes a from count end minus after
  finished_plain minus off after repeats k e =
      subst (λ m. WordPut a from (undone m (repeated k (letters (take count (drop from a))))) after) (sym off)
      (put_copies a from count end body_inside r.inside k e after (repeats k e))

  module _ (minus : Bool) (on : minus ≡ true) (mid part after : List ℕ) (repeats : Repeats a from count end mid)
      (inverted : Inverted (drop from mid) (end - from) part) (put : after ≡ take from mid ++ part) where
    pub finished_undone : Finishes a from count end minus after
    finished_undone k e =
        subst (λ m. WordPut a from (undone m (repeated k (letters (take count (drop from a))))) after) (sym on)
        (put_undone a from count end body_inside r.inside k e mid part after (repeats k e) inverted put)
