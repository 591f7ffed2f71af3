-- What the writers of items and bodies meet on their way: the parts of an item that is read, and its body laid out once.
use mathlib.Core.Path.{◌≡◌, refl, sym, ap, subst, ◌∙◌}
use mathlib.Core.List.{List, [], ◌∷◌}
use mathlib.Core.Bool.{Bool, true, false, cond}
use mathlib.Core.Option.{Option}
use Prim.Native.Nat.{ℕ, zero, suc, ◌+◌, ◌-◌, ◌*◌, ◌≤◌, ◌<◌}
use native.Mathlib.Nat.{zero-mul, mul-zero, suc-mul}
use native.Mathlib.Omega.{arith}
use lib.Dec.{leb, eqb}
use lib.ListN.{length, take, drop, set}
use lib.Seq.{drop-drop}
use borrow.Author.Tests.{leb-true}
use Rattle.model.specs.Word.{forward, Word}
use Rattle.model.specs.Outcome.{Outcome, answered, refused, ◌>>=◌, unless}
use Rattle.model.specs.Bits.{Read}
use Rattle.model.specs.Notation.{Pattern, Item, item, Body, move, bracket, repeated, times, undone, item_meaning, body_meaning, moves, item_moves}
use Rattle.model.specs.Notation.{body_moves, body_highest, item_highest, zero_byte, opening_byte, closing_byte, minus_byte, no_pattern, is_digit, second_digit}
use Rattle.model.specs.Notation.{read_number, read_minus, read_count, read_close, read_body, read_item, read_pattern}
use Rattle.model.proofs.Impossible.{impossible}
use Rattle.model.proofs.Booleans.{both_true}
use Rattle.theory.proofs.Notation.{item_counted, body_counted}
use Rattle.engine.specs.Gap.{letters}
use Rattle.model.specs.Plain.{most_letters}
use Rattle.importing.specs.declared.writing.Laid.{Laid}
use Rattle.importing.specs.Reading.{stands_first, Kept, kept_item, within}
use Rattle.importing.specs.Laying.{WordPut, Repeatable, Finishes, ItemFits, ItemLaid, BodyFits, BodyLaid, PatternFits, PatternLaid}
use Rattle.importing.proofs.Readers.{close_after, body_bracket, body_move, minus_there, minus_none}
use Rattle.importing.proofs.Keeping.{Answered, kept_answered, capped_low}
use Rattle.importing.proofs.Items.{within_less}
use Rattle.importing.proofs.Laying.{put_nothing, put_move, put_kept, put_over, put_word}

-- A NUMBER

-- a number that is read has at most two digits
abbrev TwoDigits : Outcome (Read ℕ) → Type 0
TwoDigits (answered r) = r.value ≤ 99
TwoDigits (refused n place) = Unit {0}

digit_most : (x : ℕ) → is_digit x ≡ true → x ≤ 57
digit_most x e = leb-true x 57 (both_true (leb 48 x) (leb x 57) e).1

second_low : (a : ℕ) → a ≤ 9 → (t : List ℕ) → (second_digit a t).value ≤ 99
second_low a h [] = omega (arith, h)
second_low a h (x ∷ xs) = test (is_digit x) refl
  where
    test : (b : Bool) → is_digit x ≡ b → (cond {A = Read ℕ} b (record { value = 10 * a + (x - zero_byte); rest = xs })
        (record { value = a; rest = x ∷ xs })).value ≤ 99
    test true e = omega (arith, h, digit_most x e)
    test false e = omega (arith, h)

number_low : (t : List ℕ) → TwoDigits (read_number t)
number_low [] = tt
number_low (x ∷ xs) = test (is_digit x) refl
  where
    value : is_digit x ≡ true → (b : Bool) → (cond {A = Read ℕ} b (record { value = 0; rest = xs }) (second_digit (x - zero_byte) xs)).value ≤ 99
    value e true = omega arith
    value e false = second_low (x - zero_byte) (omega (arith, digit_most x e)) xs

    test : (b : Bool) → is_digit x ≡ b
        → TwoDigits (cond b (answered (cond (eqb x zero_byte) (record { value = 0; rest = xs }) (second_digit (x - zero_byte) xs))) no_pattern)
    test true e = value e (eqb x zero_byte)
    test false e = tt

-- THE PARTS OF AN ITEM

record Parts (inner : List ℕ → Outcome (Read Pattern)) (t : List ℕ) (i : Item) : Type 0 where
  pub body : Body
  pub count : Option ℕ
  pub item_is : i ≡ item (read_minus t).value body count
  pub behind : List ℕ
  pub body_read : read_body inner (read_minus t).rest ≡ answered (record { value = body; rest = behind })

item_parts : (inner : List ℕ → Outcome (Read Pattern)) (t : List ℕ) (r : Read Item) → read_item inner t ≡ answered r → Parts inner t r.value
unfolding read_item
item_parts inner t r e = from_body (read_body inner (read_minus t).rest) refl e
  where
    from_count : (b : Read Body) → read_body inner (read_minus t).rest ≡ answered b → (o : Outcome (Read (Option ℕ)))
        → (o >>= λ k. answered (record { value = item (read_minus t).value b.value k.value; rest = k.rest })) ≡ answered r → Parts inner t r.value
    from_count b p (refused n place) q = impossible (cc)
    from_count b p (answered k) q = same (cc)
      where
        same : record { value = item (read_minus t).value b.value k.value; rest = k.rest } ≡ r → Parts inner t r.value
        same s = record { body = b.value; count = k.value; item_is = ap (λ (x : Read Item). x.value) (sym s); behind = b.rest; body_read = p }

    from_body : (o : Outcome (Read Body)) → read_body inner (read_minus t).rest ≡ o
        → (o >>= λ b. read_count b.rest >>= λ k. answered (record { value = item (read_minus t).value b.value k.value; rest = k.rest })) ≡ answered r
        → Parts inner t r.value
    from_body (refused n place) p q = impossible (cc)
    from_body (answered b) p q = from_count b p (read_count b.rest) q

-- a body that begins with a bracket, and one that does not
record Held (inner : List ℕ → Outcome (Read Pattern)) (t : List ℕ) (b : Body) : Type 0 where
  pub pattern : Read Pattern
  pub inner_read : inner (drop 1 t) ≡ answered pattern
  pub body_is : b ≡ bracket pattern.value

body_held : (inner : List ℕ → Outcome (Read Pattern)) (t : List ℕ) (b : Read Body) → stands_first opening_byte t ≡ true → read_body inner t ≡ answered b
    → Held inner t b.value
body_held inner t b opens e = from_inner (inner (drop 1 t)) refl (sym (body_bracket inner t opens) ∙ e)
  where
    closed : (q : Pattern) (s : List ℕ) → read_close q s ≡ answered b → b.value ≡ bracket q
    closed q [] p = impossible (cc)
    closed q (x ∷ xs) p = test (eqb x closing_byte) p
      where
        test : (c : Bool) → cond c (answered (record { value = bracket q; rest = xs })) no_pattern ≡ answered b → b.value ≡ bracket q
        test true p = same (cc)
          where
            same : record { value = bracket q; rest = xs } ≡ b → b.value ≡ bracket q
            same s = ap (λ (y : Read Body). y.value) (sym s)
        test false p = impossible (cc)

    from_inner : (o : Outcome (Read Pattern)) → inner (drop 1 t) ≡ o → (o >>= close_after) ≡ answered b → Held inner t b.value
    from_inner (refused n place) p q = impossible (cc)
    from_inner (answered r) p q = record { pattern = r; inner_read = p; body_is = closed r.value r.rest q }

record Moved (b : Body) : Type 0 where
  pub number : ℕ
  pub low : number ≤ 99
  pub body_is : b ≡ move number

body_moved : (inner : List ℕ → Outcome (Read Pattern)) (t : List ℕ) (b : Read Body) → stands_first opening_byte t ≡ false → read_body inner t ≡ answered b
    → Moved b.value
body_moved inner t b plain e = from_number (read_number t) (number_low t) (sym (body_move inner t plain) ∙ e)
  where
    from_number : (o : Outcome (Read ℕ)) → TwoDigits o
        → (o >>= λ a. unless (eqb a.value 0) 19 (record { value = move a.value; rest = a.rest })) ≡ answered b → Moved b.value
    from_number (refused n place) low q = impossible (cc)
    from_number (answered a) low q = test (eqb a.value 0) q
      where
        test : (c : Bool) → unless c 19 (record { value = move a.value; rest = a.rest }) ≡ answered b → Moved b.value
        test true p = impossible (cc)
        test false p = same (cc)
          where
            same : record { value = move a.value; rest = a.rest } ≡ b → Moved b.value
            same s = record { number = a.value; low = low; body_is = ap (λ (y : Read Body). y.value) (sym s) }

-- A BODY THAT IS WRITTEN

-- the body that is read, whose moves have room
record BodyRead (o : Outcome (Read Body)) (number from room : ℕ) : Type 0 where
  body : Read Body
  read : o ≡ answered body
  fits : BodyFits (answered body) number from room

body_there : (o : Outcome (Read Body)) (number from room : ℕ) → BodyFits o number from room → BodyRead o number from room
body_there (answered b) number from room h = record { body = b; read = refl; fits = h }
body_there (refused n place) number from room h = absurd h

module _ (text : List ℕ) (at depth number from : ℕ) (a : List ℕ) (fits : BodyFits (read_body (within depth) (drop at text)) number from (length a)) where
  the_body : BodyRead (read_body (within depth) (drop at text)) number from (length a)
  the_body = body_there (read_body (within depth) (drop at text)) number from (length a) fits

  lays_body : (after : List ℕ) (end : ℕ) → BodyLaid (answered the_body.body) a from after end
      → BodyLaid (read_body (within depth) (drop at text)) a from after end
  lays_body after end = subst (λ o. BodyLaid o a from after end) (sym the_body.read)

  -- a bracket's pattern is read one level deeper, and has room
  module _ (opens : stands_first opening_byte (drop at text) ≡ true) where
    held : Held (within depth) (drop at text) the_body.body.value
    held = body_held (within depth) (drop at text) the_body.body opens the_body.read

    held_read : within depth (drop (at + 1) text) ≡ answered held.pattern
    held_read = ap (within depth) (sym (drop-drop 1 at text)) ∙ held.inner_read

    pub deep : depth ≡ 0 → ⊥
    deep none = not_read (ap (λ d. within d (drop (at + 1) text)) (sym none) ∙ held_read)
      where
        not_read : no_pattern ≡ answered held.pattern → ⊥
        not_read p = impossible (cc)

    pattern_read : read_pattern (depth - 1) (drop (at + 1) text) ≡ answered held.pattern
    pattern_read = sym (within_less depth (drop (at + 1) text) deep) ∙ held_read

    moves_held : body_moves the_body.body.value ≡ moves held.pattern.value
    moves_held = ap body_moves held.body_is

    pub pattern_fits : PatternFits (read_pattern (depth - 1) (drop (at + 1) text)) from (length a)
    pattern_fits =
        subst (λ o. PatternFits o from (length a)) (sym pattern_read)
        (omega (arith, moves_held, the_body.fits.1), omega (arith, moves_held, the_body.fits.2))

    pub pattern_laid : (mid : List ℕ) (end : ℕ) → PatternLaid (read_pattern (depth - 1) (drop (at + 1) text)) a from mid end
        → BodyLaid (read_body (within depth) (drop at text)) a from mid end
    pattern_laid mid end done =
        let told = subst (λ o. PatternLaid o a from mid end) pattern_read done in
        lays_body mid end (subst (λ b. WordPut a from (body_meaning b) mid) (sym held.body_is) told.0, omega (arith, told.1, moves_held))

  -- a move is the highest number in its body
  module _ (plain : stands_first opening_byte (drop at text) ≡ false) where
    moved : Moved the_body.body.value
    moved = body_moved (within depth) (drop at text) the_body.body plain the_body.read

    number_is : number ≡ moved.number
    number_is = sym the_body.fits.0 ∙ ap body_highest moved.body_is

    one_move : body_moves the_body.body.value ≡ 1
    one_move = ap body_moves moved.body_is

    pub move_room : from < length a
    move_room = omega (arith, one_move, the_body.fits.2)

    pub move_laid : BodyLaid (read_body (within depth) (drop at text)) a from (set a from number) (from + 1)
    move_laid =
        lays_body (set a from number) (from + 1) (
          subst (λ w. WordPut a from w (set a from number)) (ap (λ n. forward n ∷ []) number_is ∙ sym (ap body_meaning moved.body_is))
              (put_move a from number move_room (omega (arith, number_is, moved.low))),
          omega (arith, one_move),
        )

-- AN ITEM THAT IS WRITTEN

-- `k` was kept of the item at `at`, whose moves have room from `from` on
module _ (text : List ℕ) (at depth from : ℕ) (a : List ℕ) (k : Kept) (e : answered k ≡ kept_item (read_item (within depth) (drop at text)))
    (fits : ItemFits (read_item (within depth) (drop at text)) from (length a)) where
  was_read : Answered item_moves item_highest (read_item (within depth) (drop at text)) k
  was_read = kept_answered item_moves item_highest (read_item (within depth) (drop at text)) k e

  abbrev the_item : Item
  the_item = was_read.value

  few : (item_moves the_item ≤ most_letters) × (from + item_moves the_item ≤ length a)
  few = subst (λ o. ItemFits o from (length a)) was_read.read fits

  -- none of its moves was left uncounted
  moves_exact : k.moves ≡ item_moves the_item
  moves_exact = was_read.moves_is ∙ capped_low (item_moves the_item) few.0

  pub end_inside : from + k.moves ≤ length a
  end_inside = omega (arith, moves_exact, few.1)

  laid_out : (after : List ℕ) (laid : Laid) → WordPut a from (item_meaning the_item) after → drop laid.next text ≡ k.rest → laid.end ≡ from + k.moves
      → ItemLaid (read_item (within depth) (drop at text)) text a from after laid
  laid_out after laid lays next end =
      subst (λ o. ItemLaid o text a from after laid) (sym was_read.read) (lays, next, omega (arith, end, moves_exact))

  -- an item of no moves
  pub nothing_laid : (laid : Laid) → drop laid.next text ≡ k.rest → laid.end ≡ from + k.moves → k.moves ≡ 0
      → ItemLaid (read_item (within depth) (drop at text)) text a from a laid
  nothing_laid laid next end none =
      laid_out a laid (subst (λ w. WordPut a from w a) (empty (item_meaning the_item) (item_counted the_item ∙ sym moves_exact ∙ none))
      (put_nothing a from (omega (arith, end_inside)))) next end
    where
      empty : (w : Word) → length w ≡ 0 → [] ≡ w
      empty [] h = refl
      empty (x ∷ w) h = absurd (omega (arith, h))

  parts : Parts (within depth) (drop at text) the_item
  parts = item_parts (within depth) (drop at text) (record { value = the_item; rest = k.rest }) was_read.read

  meaning_is : item_meaning the_item ≡ undone (read_minus (drop at text)).value (repeated (times parts.count) (body_meaning parts.body))
  meaning_is = ap item_meaning parts.item_is

  moves_are : k.moves ≡ times parts.count * body_moves parts.body
  moves_are = moves_exact ∙ ap item_moves parts.item_is

  module _ (some : 1 ≤ k.moves) where
    counted_once : 1 ≤ times parts.count
    counted_once = positive (times parts.count) moves_are
      where
        positive : (c : ℕ) → k.moves ≡ c * body_moves parts.body → 1 ≤ c
        positive zero h = absurd (omega (arith, some, h, zero-mul (body_moves parts.body)))
        positive (suc c) h = omega arith

    body_some : 1 ≤ body_moves parts.body
    body_some = positive (body_moves parts.body) moves_are
      where
        positive : (m : ℕ) → k.moves ≡ times parts.count * m → 1 ≤ m
        positive zero h = absurd (omega (arith, some, h, mul-zero (times parts.count)))
        positive (suc m) h = omega arith

    body_fewer : body_moves parts.body ≤ k.moves
    body_fewer = less (times parts.count) counted_once moves_are
      where
        less : (c : ℕ) → 1 ≤ c → k.moves ≡ c * body_moves parts.body → body_moves parts.body ≤ k.moves
        less zero h p = absurd (omega (arith, h))
        less (suc c) h p = omega (arith, p, suc-mul c (body_moves parts.body))

    -- `start` is where its body begins
    module _ (start : ℕ) (begins : drop start text ≡ (read_minus (drop at text)).rest) where
      body_is : read_body (within depth) (drop start text) ≡ answered (record { value = parts.body; rest = parts.behind })
      body_is = ap (read_body (within depth)) begins ∙ parts.body_read

      pub body_fits : BodyFits (read_body (within depth) (drop start text)) k.highest from (length a)
      body_fits =
          subst (λ o. BodyFits o k.highest from (length a)) (sym body_is) (
            sym (was_read.highest_is ∙ ap item_highest parts.item_is),
            omega (arith, body_fewer, moves_exact, few.0),
            omega (arith, body_fewer, end_inside),
          )

      -- the body stands once
      module _ (mid : List ℕ) (once : ℕ) (done : BodyLaid (read_body (within depth) (drop start text)) a from mid once) where
        told : WordPut a from (body_meaning parts.body) mid × (once ≡ from + body_moves parts.body)
        told = subst (λ o. BodyLaid o a from mid once) body_is done

        pub once_after : from ≤ once
        once_after = omega (arith, told.1)

        count_is : once - from ≡ body_moves parts.body
        count_is = omega (arith, told.1)

        all_moves : from + k.moves ≡ from + times parts.count * (once - from)
        all_moves = ap (λ m. from + m) (moves_are ∙ ap (λ m. times parts.count * m) (sym count_is))

        -- it can be repeated
        pub body_repeats : Repeatable from (once - from) (from + k.moves) (length mid)
        body_repeats = record {
          some = omega (arith, count_is, body_some);
          times = times parts.count;
          once = counted_once;
          ends = all_moves;
          inside = omega (arith, put_kept a from (body_meaning parts.body) mid told.0, end_inside);
        }

        -- and then the whole item stands
        pub item_stands : (after : List ℕ) (minus : Bool) (laid : Laid) → Finishes mid from (once - from) (from + k.moves) minus after
            → minus ≡ (read_minus (drop at text)).value → drop laid.next text ≡ k.rest → laid.end ≡ from + k.moves
            → ItemLaid (read_item (within depth) (drop at text)) text a from after laid
        item_stands after minus laid finishes m next end = laid_out after laid whole next end
          where
            word : letters (take (once - from) (drop from mid)) ≡ body_meaning parts.body
            word = put_word a from (body_meaning parts.body) mid told.0 (once - from) (count_is ∙ sym (body_counted parts.body))

            over : WordPut mid from (item_meaning the_item) after
            over =
                subst (λ w. WordPut mid from w after)
                (ap (λ w. undone minus (repeated (times parts.count) w)) word
                ∙ ap (λ s. undone s (repeated (times parts.count) (body_meaning parts.body))) m ∙ sym meaning_is)
                (finishes (times parts.count) all_moves)

            whole : WordPut a from (item_meaning the_item) after
            whole = put_over a mid after from (body_meaning parts.body) (item_meaning the_item) told.0 over
                (omega (arith, body_counted parts.body, item_counted the_item, body_fewer, moves_exact))

-- whether there is a minus
pub minus_is : (t : List ℕ) (b : Bool) → b ≡ stands_first minus_byte t → b ≡ (read_minus t).value
minus_is t true e = ap (λ (r : Read Bool). r.value) (sym (minus_there t (sym e)))
minus_is t false e = ap (λ (r : Read Bool). r.value) (sym (minus_none t (sym e)))
