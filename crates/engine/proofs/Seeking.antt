-- The search in the workspace: its invariant, what a letter that goes over the gap does to it, and what is found.
use mathlib.Core.Path.{◌≡◌, refl, sym, ap, ap₂, ◌∙◌}
use mathlib.Core.List.{List, [], ◌∷◌, ◌++◌, append_assoc, append-nil}
use Prim.Native.Nat.{ℕ, suc, ◌+◌, ◌-◌, ◌≤◌, ◌<◌}
use native.Mathlib.Decide.{dec_lt}
use native.Mathlib.Omega.{arith}
use native.Mathlib.Numerals.{add-one}
use lib.ListN.{length, take, drop, set, get_or, length-set}
use lib.Seq.{take-suc-set, drop-set-lt, drop-cons, drop-length, take-suc, length-take-le}
use Rattle.model.specs.Word.{Word, Letter, letter, forward, back}
use Rattle.model.specs.Reversing.{nowhere}
use Rattle.engine.specs.Search.{site_from}
use Rattle.engine.specs.Gap.{letters, word_at, place_before, AtSite, AtEnd}
use Rattle.engine.proofs.Letters.{letter_forward, letter_back, letters_append, letters_cons, letters_nil, length_letters}
use Rattle.engine.proofs.Sites.{pass_forward, pass_back, finds_here, finds_none, empty_none}

-- the word is as it was, and a search from the place of the present gap finds in it what one from `place` does
pub record Seeking (place : ℕ) (word : Word) (bytes : List ℕ) (left right : ℕ) : Type 0 where
  pub ordered : left ≤ right
  pub inside : right ≤ length bytes
  pub word_kept : word_at bytes left right ≡ word
  pub same : site_from place word ≡ site_from (place_before left) (word_at bytes left right)

-- the letters before the gap by the last of them
abbrev front : List ℕ → ℕ → Word
front bytes left = letters (take (left - 1) bytes)

abbrev last : List ℕ → ℕ → ℕ
last bytes left = get_or bytes (left - 1) 0

module _ (bytes : List ℕ) (left : ℕ) (some : 0 < left) (within : left ≤ length bytes) where
  pub front_length : length (front bytes left) ≡ left - 1
  front_length = length_letters (take (left - 1) bytes) ∙ length-take-le (left - 1) bytes (omega arith)

  by_last : letters (take left bytes) ≡ front bytes left ++ (letter (last bytes left) ∷ [])
  by_last =
      let n : left ≡ suc (left - 1) = omega arith in
      ap letters (ap (λ i. take i bytes) n ∙ take-suc bytes (left - 1) 0 (omega arith))
      ∙ (letters_append (take (left - 1) bytes) (last bytes left ∷ [])
      ∙ ap (λ w. front bytes left ++ w) (letters_cons (last bytes left) [] ∙ ap (λ w. letter (last bytes left) ∷ w) letters_nil))

  from_place : (w : Word) → site_from (place_before left) w ≡ site_from (length (front bytes left)) w
  from_place w = ap (λ i. site_from i w) (sym front_length)

  to_place : (w : Word) → site_from (suc (length (front bytes left))) w ≡ site_from (place_before (left + 1)) w
  to_place w = ap (λ i. site_from i w) (omega (arith, front_length))

module _ (bytes : List ℕ) (left right : ℕ) (ordered : left ≤ right) (more : right < length bytes) where
  abbrev next : ℕ
  next = get_or bytes right 0

  abbrev rest : Word
  rest = letters (drop (right + 1) bytes)

  abbrev word : Word
  word = word_at bytes left right

  abbrev moved : List ℕ
  moved = set bytes left next

  before : take (left + 1) moved ≡ take left bytes ++ (next ∷ [])
  before = rw add-one (take-suc-set bytes left next (omega arith))

  after : drop (right + 1) moved ≡ drop (right + 1) bytes
  after = drop-set-lt (right + 1) bytes left next (omega arith)

  word_moves : word_at moved (left + 1) (right + 1) ≡ word
  unfolding word_at
  word_moves =
      let e : take (left + 1) moved ++ drop (right + 1) moved ≡ take left bytes ++ drop right bytes =
      rw (before, after, append_assoc, drop-cons bytes right 0 more, add-one) refl in
      ap letters e

  -- the word by the letters at the gap
  at_gap : 0 < left → (x y : Letter) → letter (last bytes left) ≡ x → letter next ≡ y → word ≡ front bytes left ++ (x ∷ y ∷ rest)
  unfolding word_at
  at_gap some x y ex ey =
      letters_append (take left bytes) (drop right bytes)
      ∙ (ap₂ (λ u v. u ++ v) (by_last bytes left some (omega arith) ∙ ap (λ l. front bytes left ++ (l ∷ [])) ex)
      (ap letters (drop-cons bytes right 0 more)
      ∙ (letters_cons next (drop (suc right) bytes) ∙ ap₂ (λ l w. l ∷ w) ey (ap (λ i. letters (drop i bytes)) (sym (add-one right)))))
      ∙ append_assoc (front bytes left) (x ∷ []) (y ∷ rest))

  -- a search from the next gap finds what one from this gap does
  abbrev Passes : Type 0
  Passes = site_from (place_before left) word ≡ site_from (place_before (left + 1)) word

  by_letters : 0 < left → (x y : Letter) → letter (last bytes left) ≡ x → letter next ≡ y
      → site_from (length (front bytes left)) (front bytes left ++ (x ∷ y ∷ rest)) ≡ site_from (suc (length (front bytes left)))
      (front bytes left ++ (x ∷ y ∷ rest))
      → Passes
  by_letters some x y ex ey e =
      let w = at_gap some x y ex ey in
      from_place bytes left some (omega arith) word
      ∙ (ap (site_from (length (front bytes left))) w
      ∙ (e ∙ (ap (site_from (suc (length (front bytes left)))) (sym w) ∙ to_place bytes left some (omega arith) word)))

  pub passes_first : left ≤ 0 → Passes
  passes_first z = ap (λ i. site_from i word) (omega arith)

  pub passes_forward : 0 < left → last bytes left < 128 → Passes
  passes_forward some f =
      by_letters some (forward (last bytes left)) (letter next) (letter_forward (last bytes left) f) refl
      (pass_forward (front bytes left) (last bytes left) (letter next ∷ rest))

  pub passes_back : 128 ≤ next → Passes
  passes_back f = go (dec_lt 0 left)
    where
      go : Dec (0 < left) → Passes
      go (yes some) =
          by_letters some (letter (last bytes left)) (back (next - 128)) refl (letter_back next f)
          (pass_back (front bytes left) (letter (last bytes left)) (next - 128) rest)
      go (no none) = passes_first (omega arith)

  module _ {place : ℕ} {whole : Word} (s : Seeking place whole bytes left right) where
    -- the next letter goes over the gap
    pub seeks_on : Passes → Seeking place whole moved (left + 1) (right + 1)
    seeks_on e =
        record {
          ordered = omega arith;
          inside = simp length-set (omega arith);
          word_kept = word_moves ∙ s.word_kept;
          same = s.same ∙ (e ∙ ap (site_from (place_before (left + 1))) (sym word_moves));
        }

    pub found_at : 0 < left → 128 ≤ last bytes left → next < 128 → AtSite (site_from place whole) whole bytes left right
    found_at some b f =
        record {
          ordered = ordered;
          some_before = omega arith;
          some_after = more;
          back_before = b;
          forward_after = f;
          found =
              s.same
              ∙ (from_place bytes left some (omega arith) word
              ∙ (ap (site_from (length (front bytes left)))
              (at_gap some (back (last bytes left - 128)) (forward next) (letter_back (last bytes left) b) (letter_forward next f))
              ∙ finds_here (front bytes left) (last bytes left - 128) next rest));
          word_kept = s.word_kept;
        }

-- the word before a gap that has nothing after it is all of it
pub all_before : (bytes : List ℕ) (left right : ℕ) → right ≡ length bytes → word_at bytes left right ≡ letters (take left bytes)
unfolding word_at
all_before bytes left right all =
    ap letters (ap (λ i. take left bytes ++ drop i bytes) all ∙ (ap (λ l. take left bytes ++ l) (drop-length bytes) ∙ append-nil (take left bytes)))

pub none_left : {place : ℕ} {word : Word} {bytes : List ℕ} {left right : ℕ} → Seeking place word bytes left right → right ≡ length bytes
    → AtEnd (site_from place word) word bytes left right
none_left {place} {word} {bytes} {left} {right} s all =
    record { ordered = s.ordered; all = all; none = s.same ∙ go (dec_lt 0 left); word_kept = s.word_kept }
  where
    go : Dec (0 < left) → site_from (place_before left) (word_at bytes left right) ≡ nowhere
    go (yes some) =
        let within : left ≤ length bytes = omega (arith, s.ordered) in
        from_place bytes left some within (word_at bytes left right)
        ∙ (ap (site_from (length (front bytes left))) (all_before bytes left right all ∙ by_last bytes left some within)
        ∙ finds_none (front bytes left) (letter (last bytes left)))
    go (no none) =
        let z : left ≡ 0 = omega arith in
        ap (site_from (place_before left)) (all_before bytes left right all ∙ (ap (λ i. letters (take i bytes)) z ∙ letters_nil))
        ∙ empty_none (place_before left)
