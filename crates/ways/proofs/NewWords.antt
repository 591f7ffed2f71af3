-- The letters of the word that a swap would make, and the order of two words by letters.
use mathlib.Core.Path.{◌≡◌, refl, sym, ap, ◌∙◌}
use mathlib.Core.List.{List, [], ◌∷◌, ◌++◌}
use mathlib.Core.Bool.{true, false}
use Prim.Native.Nat.{ℕ, zero, suc, ◌+◌, ◌-◌, ◌≤◌, ◌<◌}
use native.Mathlib.Omega.{arith}
use native.Mathlib.Decide.{ℕ_discrete, dec_lt}
use lib.ListN.{length, take, drop, get_or, length-append, get_or-append}
use lib.Seq.{get_or-append-add, get_or_at, get_or-take, get_or-drop}
use Rattle.std.specs.Prelude.{min}
use Rattle.std.specs.Ordering.{MatchOrdering}
use Rattle.std.specs.declared.cmp.Ordering.{Ordering}
use Rattle.std.specs.declared.cmp.Ordering.TheVariants.{Less, Equal, Greater}
use Rattle.model.specs.Word.{Positive}
use Rattle.model.specs.Ways.{earlier}
use Rattle.model.proofs.Listing.{earlier_same, earlier_below}
use Rattle.areas.proofs.Parts.{taken_length}
use Rattle.ways.specs.declared.swap.Swap.{Swap}
use Rattle.ways.specs.Swap.{new_length, put_letters, new_word, Readable, OrderMeans}

-- past the first list
pub get_d_past : (xs ys : List ℕ) (i : ℕ) → length xs ≤ i → get_or (xs ++ ys) i 0 ≡ get_or ys (i - length xs) 0
get_d_past xs ys i h =
    let at : i ≡ length xs + (i - length xs) = omega arith in
    ap (λ j. get_or (xs ++ ys) j 0) at ∙ get_or-append-add xs ys (i - length xs) 0

-- a part of a list
pub part_at : (area : List ℕ) (from count i : ℕ) → i < count → get_or (take count (drop from area)) i 0 ≡ get_or area (from + i) 0
part_at area from count i h = get_or-take count (drop from area) i 0 h ∙ get_or-drop from area i 0

module _ (area cells : List ℕ) (s : Swap) (r : Readable area cells s) where
  before : Positive
  before = take s.offset (drop s.word area)

  after : Positive
  after = take s.rest (drop (s.word + (s.offset + s.taken)) area)

  before_length : length before ≡ s.offset
  unfolding before
  before_length = taken_length area s.word s.offset (omega (arith, r.inside))

  after_length : length after ≡ s.rest
  unfolding after
  after_length = taken_length area (s.word + (s.offset + s.taken)) s.rest (omega (arith, r.inside))

  put_length : length (put_letters cells s) ≡ s.put - 1
  put_length = taken_length cells (s.cell + 1) (s.put - 1) (omega (arith, r.held, r.some))

  new_is : new_word area cells s ≡ before ++ (s.first ∷ put_letters cells s ++ after)
  unfolding new_word before after
  new_is = refl

  pub new_length_lem : length (new_word area cells s) ≡ new_length s
  new_length_lem =
      ap length new_is
      ∙ (length-append before (s.first ∷ put_letters cells s ++ after)
      ∙ omega (arith, before_length, length-append (put_letters cells s) after, after_length, put_length, r.some))

  pub new_before : (i : ℕ) → i < s.offset → get_or (new_word area cells s) i 0 ≡ get_or area (s.word + i) 0
  unfolding before
  new_before i h =
      ap (λ l. get_or l i 0) new_is
      ∙ (get_or-append before (s.first ∷ put_letters cells s ++ after) 0 i (omega (arith, before_length)) ∙ part_at area s.word s.offset i h)

  pub new_first : get_or (new_word area cells s) s.offset 0 ≡ s.first
  new_first = ap (λ l. get_or l s.offset 0) new_is ∙ get_or_at before s.first (put_letters cells s ++ after) 0 s.offset before_length

  -- what follows the first letter that is put in
  beyond : (i : ℕ) → s.offset < i → get_or (new_word area cells s) i 0 ≡ get_or (put_letters cells s ++ after) (i - s.offset - 1) 0
  beyond i h =
      let past : i - length before ≡ suc (i - s.offset - 1) = omega (arith, before_length) in
      ap (λ l. get_or l i 0) new_is
      ∙ (get_d_past before (s.first ∷ put_letters cells s ++ after) i (omega (arith, before_length))
      ∙ ap (λ j. get_or (s.first ∷ put_letters cells s ++ after) j 0) past)

  pub new_put : (i : ℕ) → s.offset < i → i < s.offset + s.put → get_or (new_word area cells s) i 0 ≡ get_or cells (s.cell + (i - s.offset)) 0
  new_put i h k =
      let at : s.cell + 1 + (i - s.offset - 1) ≡ s.cell + (i - s.offset) = omega arith in
      beyond i h
      ∙ (get_or-append (put_letters cells s) after 0 (i - s.offset - 1) (omega (arith, put_length))
      ∙ (part_at cells (s.cell + 1) (s.put - 1) (i - s.offset - 1) (omega arith) ∙ ap (λ j. get_or cells j 0) at))

  pub new_after : (i : ℕ) → s.offset + s.put ≤ i → i < new_length s → get_or (new_word area cells s) i 0 ≡ get_or area (s.word + s.taken + (i - s.put)) 0
  unfolding after
  new_after i h k =
      let some = r.some in
      let at : s.word + (s.offset + s.taken) + (i - s.offset - 1 - length (put_letters cells s)) ≡ s.word + s.taken + (i - s.put) =
      omega (arith, put_length) in
      beyond i (omega arith)
      ∙ (get_d_past (put_letters cells s) after (i - s.offset - 1) (omega (arith, put_length))
      ∙ (part_at area (s.word + (s.offset + s.taken)) s.rest (i - s.offset - 1 - length (put_letters cells s)) (omega (arith, put_length))
      ∙ ap (λ j. get_or area j 0) at))

-- .. of a word that is seen to be the new one
pub seen_length : {area cells : List ℕ} {s : Swap} {v : Positive} → Readable area cells s → new_word area cells s ≡ v → length v ≡ new_length s
seen_length {area} {cells} {s} r e = ap length (sym e) ∙ new_length_lem area cells s r

-- THE ORDER BY LETTERS

-- the same letters before a place
abbrev pub Agree : Positive → Positive → ℕ → Type 0
Agree u v i = (j : ℕ) → j < i → get_or u j 0 ≡ get_or v j 0

pub agree_none : (u v : Positive) → Agree u v 0
agree_none u v j h = absurd (omega arith)

pub agree_more : (u v : Positive) (i : ℕ) → Agree u v i → get_or u i 0 ≡ get_or v i 0 → Agree u v (i + 1)
agree_more u v i a e j h = go (ℕ_discrete j i)
  where
    use_same : j ≡ i → get_or u j 0 ≡ get_or v j 0
    use_same p = ap (λ k. get_or u k 0) p ∙ (e ∙ sym (ap (λ k. get_or v k 0) p))

    go : Dec (j ≡ i) → get_or u j 0 ≡ get_or v j 0
    go (yes p) = use_same p
    go (no p) = a j (omega arith)

agree_rest : (a b : ℕ) (u v : Positive) (i : ℕ) → Agree (a ∷ u) (b ∷ v) (suc i) → Agree u v i
agree_rest a b u v i h j k = h (suc j) (omega arith)

-- the first letter that differs decides
pub earlier_at : (u v : Positive) (i : ℕ) → i < length u → i < length v → Agree u v i → get_or u i 0 < get_or v i 0 → earlier u v ≡ true
earlier_at [] v i p q a h = absurd (omega arith)
earlier_at (x ∷ u) [] i p q a h = absurd (omega arith)
earlier_at (x ∷ u) (y ∷ v) zero p q a h = earlier_below x y u v h
earlier_at (x ∷ u) (y ∷ v) (suc i) p q a h =
    ap (λ z. earlier (x ∷ u) (z ∷ v)) (sym (a 0 (omega arith)))
    ∙ (earlier_same x u v ∙ earlier_at u v i (omega arith) (omega arith) (agree_rest x y u v i a) h)

-- of a word and its beginning neither comes first
pub beginning_neither : (u v : Positive) → length u ≤ length v → Agree u v (length u) → (earlier u v ≡ false) × (earlier v u ≡ false)
beginning_neither [] [] h a = (refl, refl)
beginning_neither [] (y ∷ v) h a = (refl, refl)
beginning_neither (x ∷ u) [] h a = absurd (omega arith)
beginning_neither (x ∷ u) (y ∷ v) h a = go (beginning_neither u v (omega arith) (agree_rest x y u v (length u) a))
  where
    same : x ≡ y
    same = a 0 (omega arith)

    go : (earlier u v ≡ false) × (earlier v u ≡ false) → (earlier (x ∷ u) (y ∷ v) ≡ false) × (earlier (y ∷ v) (x ∷ u) ≡ false)
    go t = (
      ap (λ z. earlier (x ∷ u) (z ∷ v)) (sym same) ∙ (earlier_same x u v ∙ t.0),
      ap (λ z. earlier (z ∷ v) (x ∷ u)) (sym same) ∙ (earlier_same x v u ∙ t.1),
    )

-- the first letter that differs, as it was found
pub order_at : (u v : Positive) (i a b : ℕ) (r : Ordering) → i < length u → i < length v → Agree u v i → a ≡ get_or u i 0 → b ≡ get_or v i 0
    → (a ≡ b → ⊥) → MatchOrdering r (a < b) (a ≡ b) (b < a) → OrderMeans u v r
order_at u v i a b Less p q g d e n m = earlier_at u v i p q g (omega (arith, d, e, m))
order_at u v i a b Equal p q g d e n m = absurd (n m)
order_at u v i a b Greater p q g d e n m = earlier_at v u i q p (λ j h. sym (g j h)) (omega (arith, d, e, m))

-- no letter differs up to where one of them ends
pub order_same : (u v : Positive) (i : ℕ) → i ≡ min (length u) (length v) → Agree u v i → OrderMeans u v Equal
order_same u v i e g = go (dec_lt (length v) (length u))
  where
    go : Dec (length v < length u) → OrderMeans u v Equal
    go (yes p) = let t = beginning_neither v u (omega arith) (λ j h. sym (g j (omega arith))) in (t.1, t.0)
    go (no p) = beginning_neither u v (omega arith) (λ j h. g j (omega arith))

-- an area of the same length holds as much
pub readable_kept : (area area' cells : List ℕ) (s : Swap) → length area' ≡ length area → Readable area cells s → Readable area' cells s
readable_kept area area' cells s e r = record { inside = omega (arith, r.inside, e); some = r.some; few = r.few; held = r.held }
