-- The outcome of import, from what was read of the text, and what its answer says.
use mathlib.Core.Path.{◌≡◌, refl, sym, ap, ap₂, subst, ◌∙◌}
use mathlib.Core.List.{List, [], ◌∷◌, ◌++◌, map}
use Prim.Native.Nat.{ℕ, ◌+◌, ◌≤◌, ◌<◌}
use native.Mathlib.Omega.{arith}
use native.Mathlib.Decide.{dec_lt}
use lib.Dec.{ltb}
use lib.ListN.{length, take, drop, length-map, length-drop}
use lib.Seq.{take_at}
use borrow.Author.Tests.{lt-ltb, le-ltb}
use Rattle.model.specs.declared.answers.Refusal.{Refusal}
use Rattle.model.specs.declared.answers.Refusal.TheVariants.{ImageField, AnswerShort, TooManyMoves}
use Rattle.std.specs.Prelude.{Ok, Err}
use Rattle.std.specs.declared.result.Result.{Result}
use Rattle.model.specs.Word.{Word, byte, letter}
use Rattle.model.specs.Presentation.{Presentation}
use Rattle.model.specs.Outcome.{Place, unplaced, Outcome, answered, refused, ◌>>=◌, unless, mapped}
use Rattle.model.specs.Bits.{Read}
use Rattle.model.specs.Images.{read_table}
use Rattle.model.specs.Plain.{plain_program, most_letters}
use Rattle.model.specs.Areas.{begins, output_after}
use Rattle.model.specs.Stated.{refusal, packed_as}
use Rattle.model.specs.Notation.{Pattern, most_nested, meaning, moves, highest, no_pattern, read_pattern, read_text, imported, import}
use Rattle.model.proofs.Outcomes.{still_refused}
use Rattle.theory.proofs.Notation.{notation_meaning}
use Rattle.images.specs.Tables.{SizeOf}
use Rattle.loading.proofs.Early.{Early, table_early}
use Rattle.engine.specs.Gap.{letters}
use Rattle.engine.proofs.Letters.{letter_forward, letter_back}
use Rattle.importing.specs.declared.reading.Span.{Span}
use Rattle.importing.specs.Reading.{capped, kept_pattern}
use Rattle.importing.specs.Laying.{WordPut, PatternLaid}
use Rattle.importing.specs.Import.{TextOf, text_outcome, Answers, TextIs, Comes, ImportPromise}
use Rattle.importing.proofs.Keeping.{Answered, kept_answered, kept_refused, capped_low, capped_high}

-- THE WHOLE TEXT

module _ (text : List ℕ) where
  whole : Read Pattern → Outcome Pattern
  whole p = unless (ltb 0 (length p.rest)) 19 p.value

  pub text_none : no_pattern ≡ kept_pattern (read_pattern most_nested text) → read_text text ≡ no_pattern
  unfolding read_text whole
  text_none e = ap (λ o. o >>= whole) (kept_refused moves highest (read_pattern most_nested text) e)

  module _ (s : Span) (e : answered (record { moves = s.moves; highest = s.highest; rest = drop s.next text }) ≡ kept_pattern (read_pattern most_nested text))
    where
      read : Answered moves highest (read_pattern most_nested text) (record { moves = s.moves; highest = s.highest; rest = drop s.next text })
      read = kept_answered moves highest (read_pattern most_nested text) (record { moves = s.moves; highest = s.highest; rest = drop s.next text }) e

      -- bytes follow the pattern
      pub text_followed : s.next < length text → read_text text ≡ no_pattern
      unfolding read_text whole
      text_followed more = ap (λ o. o >>= whole) read.read
          ∙ ap (λ b. unless b 19 read.value) (lt-ltb 0 (length (drop s.next text)) (omega (arith, length-drop s.next text, more)))

      pub text_of : length text ≤ s.next → TextOf text s
      unfolding read_text whole
      text_of past = record {
        pattern = read.value;
        behind = drop s.next text;
        pattern_read = read.read;
        read = ap (λ o. o >>= whole) read.read
            ∙ ap (λ b. unless b 19 read.value) (le-ltb 0 (length (drop s.next text)) (omega (arith, length-drop s.next text, past)));
        moves_is = read.moves_is;
        highest_is = read.highest_is;
      }

-- A PATTERN UNDER A TABLE

module _ (n : ℕ) (p : Pattern) (area : ℕ) where
  pub move_above : n < highest p → imported n p area ≡ refusal ImageField
  unfolding imported
  move_above h = ap (λ b. unless b 5 p >>= rest) (lt-ltb n (highest p) h)
    where
      rest : Pattern → Outcome Word
      rest p = unless (ltb most_letters (moves p)) 20 p >>= λ p. unless (ltb area (moves p)) 13 (meaning p)

  module _ (low : highest p ≤ n) where
    named : imported n p area ≡ (unless (ltb most_letters (moves p)) 20 p >>= λ p. unless (ltb area (moves p)) 13 (meaning p))
    unfolding imported
    named = ap (λ b. unless b 5 p >>= λ p. unless (ltb most_letters (moves p)) 20 p >>= λ p. unless (ltb area (moves p)) 13 (meaning p))
        (le-ltb n (highest p) low)

    pub too_many : most_letters < moves p → imported n p area ≡ refusal TooManyMoves
    too_many h = named ∙ ap (λ b. unless b 20 p >>= λ p. unless (ltb area (moves p)) 13 (meaning p)) (lt-ltb most_letters (moves p) h)

    module _ (few : moves p ≤ most_letters) where
      counted : imported n p area ≡ unless (ltb area (moves p)) 13 (meaning p)
      counted = named ∙ ap (λ b. unless b 20 p >>= λ p. unless (ltb area (moves p)) 13 (meaning p)) (le-ltb most_letters (moves p) few)

      pub too_short : area < moves p → imported n p area ≡ refusal AnswerShort
      too_short h = counted ∙ ap (λ b. unless b 13 (meaning p)) (lt-ltb area (moves p) h)

      pub laid_out : moves p ≤ area → imported n p area ≡ answered (meaning p)
      laid_out h = counted ∙ ap (λ b. unless b 13 (meaning p)) (le-ltb area (moves p) h)

-- more moves than a program has were counted, or all of them
pub capped_above : (m : ℕ) → most_letters < capped m → most_letters < m
capped_above m h = elim (dec_lt most_letters m) [ yes more ↦ more | no few ↦ absurd (omega (arith, capped_low m (omega (arith, few)), h, few)) ]

pub capped_exact : (m : ℕ) → capped m ≤ most_letters → capped m ≡ m
capped_exact m h = elim (dec_lt most_letters m) [
  | yes more ↦ absurd (omega (arith, capped_high m (omega (arith, more)), h))
  | no few ↦ capped_low m
      (omega (arith, few))
]

-- THE ANSWER

-- the letters of bytes, as bytes
byte_of : (x : ℕ) → byte (letter x) ≡ x
byte_of x = elim (dec_lt x 128) [ yes h ↦ ap byte (letter_forward x h) | no h ↦ ap byte (letter_back x (omega (arith, h))) ∙ omega (arith, h) ]

bytes_of : (xs : List ℕ) → map byte (letters xs) ≡ xs
unfolding letters
bytes_of [] = refl
bytes_of (x ∷ xs) = ap₂ (λ y ys. y ∷ ys) (byte_of x) (bytes_of xs)

pub laid_begins : (a : List ℕ) (w : Word) (b : List ℕ) → WordPut a 0 w b → b ≡ begins (plain_program w) a
laid_begins a w b l =
    l.put ∙ ap (λ n. l.bytes ++ drop n a) {x = 0 + length l.bytes} {y = length l.bytes} (omega arith)
    ∙ ap (λ x. begins x a) (sym (bytes_of l.bytes) ∙ ap (map byte) l.mean)

module _ (text : List ℕ) (n : ℕ) (before : List ℕ) where
  module _ (p : Pattern) (read : read_text text ≡ answered p) where
    outcome_is : (o : Outcome Word) → imported n p (length before) ≡ o → text_outcome text n (length before) ≡ o
    outcome_is o e = ap (λ q. q >>= λ p. imported n p (length before)) read ∙ e

    pub refused_pattern : (r : Refusal) → imported n p (length before) ≡ refusal r → Answers (text_outcome text n (length before)) before before (Err r)
    refused_pattern r e = (ap (mapped length) (sym (outcome_is (refusal r) e)), ap (λ o. output_after plain_program o before) (sym (outcome_is (refusal r) e)))

    pub written_pattern : (after : List ℕ) (k : ℕ) → imported n p (length before) ≡ answered (meaning p) → k ≡ moves p → WordPut before 0 (meaning p) after
        → Answers (text_outcome text n (length before)) before after (Ok k)
    written_pattern after k e c lays = (
      ap answered (c ∙ sym (notation_meaning.counted p)) ∙ ap (mapped length) (sym (outcome_is (answered (meaning p)) e)),
      laid_begins before (meaning p) after lays ∙ ap (λ o. output_after plain_program o before) (sym (outcome_is (answered (meaning p)) e)),
    )

-- a text that was read, by the three tests of its numbers in their order
module _ (text : List ℕ) (n : ℕ) (before : List ℕ) (s : Span) (t : TextOf text s) where
  abbrev p : Pattern
  p = t.pattern

  answers_refused : (r : Refusal) → imported n p (length before) ≡ refusal r → Answers (text_outcome text n (length before)) before before (Err r)
  answers_refused = refused_pattern text n before p t.read

  pub answers_above : n < s.highest → Answers (text_outcome text n (length before)) before before (Err ImageField)
  answers_above h = answers_refused ImageField (move_above n p (length before) (omega (arith, h, t.highest_is)))

  module _ (low : s.highest ≤ n) where
    low_highest : highest p ≤ n
    low_highest = omega (arith, low, t.highest_is)

    pub answers_too_many : most_letters < s.moves → Answers (text_outcome text n (length before)) before before (Err TooManyMoves)
    answers_too_many h = answers_refused TooManyMoves (too_many n p (length before) low_highest (capped_above (moves p) (omega (arith, h, t.moves_is))))

    module _ (few : s.moves ≤ most_letters) where
      exact : s.moves ≡ moves p
      exact = t.moves_is ∙ capped_exact (moves p) (omega (arith, few, t.moves_is))

      pub answers_short : length before < s.moves → Answers (text_outcome text n (length before)) before before (Err AnswerShort)
      answers_short h = answers_refused AnswerShort (too_short n p (length before) low_highest (omega (arith, few, exact)) (omega (arith, h, exact)))

      pub answers_laid : s.moves ≤ length before → (after : List ℕ) (end : ℕ) → PatternLaid (read_pattern most_nested text) before 0 after end
          → Answers (text_outcome text n (length before)) before after (Ok s.moves)
      answers_laid h after end laid =
          written_pattern text n before p t.read after s.moves (laid_out n p (length before) low_highest (omega (arith, few, exact)) (omega (arith, h, exact)))
          exact (subst (λ o. PatternLaid o before 0 after end) t.pattern_read laid).0

-- THE SERVICE

module _ (table text : List ℕ) (area : ℕ) where
  unfoldable outcome : Presentation → Outcome Word
  outcome T = text_outcome text T.size area

  no_table : (q : Refusal) → read_table table ≡ refusal q → import table text area ≡ refusal q
  unfolding import outcome
  no_table q e = still_refused (read_table table) q e outcome

  with_table : (T : Presentation) (size : ℕ) → read_table table ≡ answered T → T.size ≡ size → import table text area ≡ text_outcome text size area
  unfolding import outcome
  with_table T size e s = ap (λ o. o >>= outcome) e ∙ ap (λ n. text_outcome text n area) s

-- the promise of the service, from its outcome
module _ (table text before after : List ℕ) (r : Result ℕ Refusal) (a : Answers (import table text (length before)) before after r) where
  abbrev Come : Outcome ℕ → Type 0
  Come = Comes table text after

  told_by : (o : Outcome Word) → import table text (length before) ≡ o → Come (mapped length o) → Come (packed_as r)
  told_by o e c = subst Come (sym (a.0 ∙ ap (mapped length) e)) c

  left_by : (o : Outcome Word) → import table text (length before) ≡ o → after ≡ output_after plain_program o before
  left_by o e = a.1 ∙ ap (λ q. output_after plain_program q before) e

  -- a table that is not read
  by_table : (n : ℕ) (place : Place) → read_table table ≡ refused n place → Come (packed_as r)
  unfolding import
  by_table n place e =
      told_by (refused n place) (ap (λ o. o >>= λ T. text_outcome text T.size (length before)) e)
      (Comes.no_table n place (subst (Early 3) e (table_early table)) e)

  module _ (T : Presentation) (read : read_table table ≡ answered T) where
    outcome_of : (o : Outcome Pattern) → read_text text ≡ o → import table text (length before) ≡ (o >>= λ p. imported T.size p (length before))
    outcome_of o e = with_table table text (length before) T T.size read refl ∙ ap (λ q. q >>= λ p. imported T.size p (length before)) e

    -- a text that is not read
    by_text : (n : ℕ) (place : Place) → read_text text ≡ refused n place → Come (packed_as r)
    by_text n place e =
        let only = notation_meaning.else_19 text n place e in
        told_by (refused 19 unplaced) (outcome_of (refused n place) e ∙ ap₂ refused only.0 only.1.0)
        (Comes.has_no_pattern T read (λ p is. only.1.1 p is.0 is.1))

    module _ (p : Pattern) (e : read_text text ≡ answered p) where
      is : TextIs text p
      is = let back = notation_meaning.writes_read text p e in (back.1, back.0)

      many : length (meaning p) ≡ moves p
      many = notation_meaning.counted p

      means_more : highest p ≤ T.size → most_letters < moves p → Come (packed_as r)
      means_more low h =
          told_by (refused 20 unplaced) (outcome_of (answered p) e ∙ too_many T.size p (length before) low h)
          (Comes.too_many T read p is (omega (arith, many)))

      lacks_room : highest p ≤ T.size → moves p ≤ most_letters → length before < moves p → Come (packed_as r)
      lacks_room low few h =
          let o = outcome_of (answered p) e ∙ too_short T.size p (length before) low few h in
          let same : length after ≡ length before = ap length (left_by (refused 13 unplaced) o) in
          told_by (refused 13 unplaced) o (Comes.too_short T read p is (omega (arith, many)))

      -- a pattern, by the three tests in their order
      by_tests : Dec (T.size < highest p) → Dec (most_letters < moves p) → Dec (length before < moves p) → Come (packed_as r)
      by_tests (yes h) second third =
          told_by (refused 5 unplaced) (outcome_of (answered p) e ∙ move_above T.size p (length before) h) (Comes.above T read p is h)
      by_tests (no low) (yes h) third = means_more (omega arith) h
      by_tests (no low) (no few) (yes h) = lacks_room (omega arith) (omega arith) h
      by_tests (no low) (no few) (no room) =
          let o = outcome_of (answered p) e ∙ laid_out T.size p (length before) (omega arith) (omega arith) (omega arith) in
          told_by (answered (meaning p)) o
          (Comes.laid T read p is
          (ap (take (length (meaning p))) (left_by (answered (meaning p)) o)
          ∙ take_at (plain_program (meaning p)) (drop (length (plain_program (meaning p))) before) (length (meaning p)) (length-map (meaning p) byte)))

    from_text : (o : Outcome Pattern) → read_text text ≡ o → Come (packed_as r)
    from_text (answered p) e = by_tests p e (dec_lt T.size (highest p)) (dec_lt most_letters (moves p)) (dec_lt (length before) (moves p))
    from_text (refused n place) e = by_text n place e

  from_table : (o : Outcome Presentation) → read_table table ≡ o → Come (packed_as r)
  from_table (answered T) e = from_text T e (read_text text) refl
  from_table (refused n place) e = by_table n place e

  promised : ImportPromise table text before after (packed_as r)
  promised = record {
    stated = a.0;
    answer_is = a.1;
    meaning =
        record {
          comes = from_table (read_table table) refl;
          one_pattern = λ p q is is'. notation_meaning.one_tree p q is.0 is'.0 (is.1 ∙ sym is'.1);
          notation = notation_meaning;
        };
  }

-- .. of a table that is not read, and of a text under one that is
module _ (table text before : List ℕ) where
  pub promised_refused : (q : Refusal) → read_table table ≡ refusal q → ImportPromise table text before before (refusal q)
  promised_refused q e =
      let o = no_table table text (length before) q e in
      promised table text before before (Err q) (ap (mapped length) (sym o), ap (λ o. output_after plain_program o before) (sym o))

  pub promised_text : (size : ℕ) → SizeOf table size → (after : List ℕ) (r : Result ℕ Refusal) → Answers (text_outcome text size (length before)) before after r
      → ImportPromise table text before after (packed_as r)
  promised_text size t after r a =
      promised table text before after r
      (subst (λ o. Answers o before after r) (sym (with_table table text (length before) t.table size t.read t.size_is)) a)
