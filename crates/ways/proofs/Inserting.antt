-- Bytes moved on one by one, a word written letter by letter, and what both come to.
use mathlib.Core.Path.{◌≡◌, refl, sym, ap, ap₂, ◌∙◌}
use mathlib.Core.Logic.{inl, inr}
use mathlib.Core.List.{List, [], ◌∷◌, ◌++◌}
use mathlib.Core.Bool.{cond}
use Prim.Native.Nat.{ℕ, ◌+◌, ◌-◌, ◌≤◌, ◌<◌}
use native.Mathlib.Omega.{arith}
use native.Mathlib.Decide.{ℕ_discrete, dec_lt}
use lib.ListN.{length, take, drop, get_or, set, length-set, length-append, length-drop, get_or-append}
use lib.Seq.{get_or-set_same, get_or-set_other, get_or-append-add, ext_get_or, get_or-drop}
use borrow.Author.Tests.{lt-ltb, le-ltb}
use Rattle.model.specs.Word.{Positive}
use Rattle.areas.proofs.Parts.{taken_length}
use Rattle.ways.specs.Marks.{untried}
use Rattle.ways.specs.declared.swap.Swap.{Swap}
use Rattle.ways.specs.Swap.{new_length, put_letters, new_word, Readable}
use Rattle.ways.specs.Insert.{Shifted, moved_on, Put, old_length, Apart, Beside, Opened}
use Rattle.ways.proofs.NewWords.{part_at, new_length_lem}

-- MOVED ON

pub record Shifting (area₀ : List ℕ) (at used by end : ℕ) (area : List ℕ) : Type 0 where
  pub same_length : length area ≡ length area₀
  pub kept : (i : ℕ) → i < end + by → get_or area i 0 ≡ get_or area₀ i 0
  pub moved : (i : ℕ) → end ≤ i → i < used → get_or area (i + by) 0 ≡ get_or area₀ i 0
  pub above : (i : ℕ) → used + by ≤ i → get_or area i 0 ≡ get_or area₀ i 0

module _ (area₀ : List ℕ) (at used by : ℕ) (room : used + by ≤ length area₀) where
  pub shift_begun : Shifting area₀ at used by used area₀
  shift_begun = record { same_length = refl; kept = λ i h. refl; moved = λ i l h. absurd (omega arith); above = λ i h. refl }

  pub shift_more : (end : ℕ) (area : List ℕ) → 1 ≤ end → end ≤ used → Shifting area₀ at used by end area
      → Shifting area₀ at used by (end - 1) (set area (end - 1 + by) (get_or area (end - 1) 0))
  shift_more end area some few s =
      record {
        same_length = length-set area (end - 1 + by) (get_or area (end - 1) 0) ∙ s.same_length;
        kept = λ i h. get_or-set_other area (end - 1 + by) i (get_or area (end - 1) 0) 0 (omega arith) ∙ s.kept i (omega arith);
        moved = λ i l h. go i l h (ℕ_discrete i (end - 1));
        above = λ i h. get_or-set_other area (end - 1 + by) i (get_or area (end - 1) 0) 0 (omega arith) ∙ s.above i h;
      }
    where
      go : (i : ℕ) → end - 1 ≤ i → i < used → Dec (i ≡ end - 1) → get_or (set area (end - 1 + by) (get_or area (end - 1) 0)) (i + by) 0 ≡ get_or area₀ i 0
      go i l h (yes e) =
          ap (λ j. get_or (set area (end - 1 + by) (get_or area (end - 1) 0)) (j + by) 0) e
          ∙ (get_or-set_same area (end - 1 + by) (get_or area (end - 1) 0) 0 (omega (arith, s.same_length))
          ∙ (s.kept (end - 1) (omega arith) ∙ sym (ap (λ j. get_or area₀ j 0) e)))
      go i l h (no e) = get_or-set_other area (end - 1 + by) (i + by) (get_or area (end - 1) 0) 0 (omega arith) ∙ s.moved i (omega arith) h

  pub shift_done : (end : ℕ) (area : List ℕ) → end ≤ at → at ≤ end → Shifting area₀ at used by end area → Shifted area₀ at used by area
  shift_done end area p q s =
      record {
        same_length = s.same_length;
        below = λ i h. s.kept i (omega arith);
        moved = λ i l h. s.moved i (omega arith) h;
        above = s.above;
      }

pub moved_before : (byte at by : ℕ) → byte < at → moved_on byte at by ≡ byte
moved_before byte at by h = ap (λ t. cond t byte (byte + by)) (lt-ltb byte at h)

pub moved_after : (byte at by : ℕ) → at ≤ byte → moved_on byte at by ≡ byte + by
moved_after byte at by h = ap (λ t. cond t byte (byte + by)) (le-ltb byte at h)

-- WRITTEN

pub record Writing (area₀ : List ℕ) (at : ℕ) (v : Positive) (i : ℕ) (area : List ℕ) : Type 0 where
  pub same_length : length area ≡ length area₀
  pub below : (j : ℕ) → j < at → get_or area j 0 ≡ get_or area₀ j 0
  pub put : (j : ℕ) → j < i → get_or area (at + j) 0 ≡ get_or v j 0
  pub above : (j : ℕ) → at + i ≤ j → get_or area j 0 ≡ get_or area₀ j 0

module _ (area₀ : List ℕ) (at : ℕ) (v : Positive) where
  pub write_begun : Writing area₀ at v 0 area₀
  write_begun = record { same_length = refl; below = λ j h. refl; put = λ j h. absurd (omega arith); above = λ j h. refl }

  -- the next byte, whatever list it is one of
  next : (bytes : List ℕ) (i : ℕ) (area : List ℕ) (x : ℕ) → at + i < length area₀ → x ≡ get_or bytes i 0 → length area ≡ length area₀
      → ((j : ℕ) → j < i → get_or area (at + j) 0 ≡ get_or bytes j 0) → (j : ℕ) → j < i + 1 → get_or (set area (at + i) x) (at + j) 0 ≡ get_or bytes j 0
  next bytes i area x room e long h j k = go (ℕ_discrete j i)
    where
      go : Dec (j ≡ i) → get_or (set area (at + i) x) (at + j) 0 ≡ get_or bytes j 0
      go (yes p) =
          ap (λ n. get_or (set area (at + i) x) (at + n) 0) p
          ∙ (get_or-set_same area (at + i) x 0 (omega (arith, long)) ∙ (e ∙ sym (ap (λ n. get_or bytes n 0) p)))
      go (no p) = get_or-set_other area (at + i) (at + j) x 0 (omega arith) ∙ h j (omega arith)

  pub write_more : (i : ℕ) (area : List ℕ) (x : ℕ) → at + i < length area₀ → x ≡ get_or v i 0 → Writing area₀ at v i area
      → Writing area₀ at v (i + 1) (set area (at + i) x)
  write_more i area x room e s =
      record {
        same_length = length-set area (at + i) x ∙ s.same_length;
        below = λ j h. get_or-set_other area (at + i) j x 0 (omega arith) ∙ s.below j h;
        put = next v i area x room e s.same_length s.put;
        above = λ j h. get_or-set_other area (at + i) j x 0 (omega arith) ∙ s.above j (omega arith);
      }

  pub write_last : (i : ℕ) (area : List ℕ) → i ≡ length v → at + i < length area₀ → Writing area₀ at v i area
      → Put area₀ at (v ++ (untried ∷ [])) (set area (at + i) untried)
  write_last i area e room s =
      let long : length (v ++ (untried ∷ [])) ≡ i + 1 = omega (arith, length-append v (untried ∷ []), e) in
      let last : untried ≡ get_or (v ++ (untried ∷ [])) i 0 =
      sym (ap (λ k. get_or (v ++ (untried ∷ [])) k 0) (e ∙ omega arith) ∙ get_or-append-add v (untried ∷ []) 0 0) in
      record {
        same_length = length-set area (at + i) untried ∙ s.same_length;
        below = λ j h. get_or-set_other area (at + i) j untried 0 (omega arith) ∙ s.below j h;
        put = λ j h. next (v ++ (untried ∷ [])) i area untried room last s.same_length
            (λ k l. s.put k l ∙ sym (get_or-append v (untried ∷ []) 0 k (omega (arith, e)))) j (omega (arith, long));
        above = λ j h. get_or-set_other area (at + i) j untried 0 (omega (arith, long)) ∙ s.above j (omega (arith, long));
      }

-- THE SAME WORD AT ANOTHER PLACE

pub part_same : (area area' : List ℕ) (from from' count : ℕ) → from + count ≤ length area → from' + count ≤ length area'
    → ((i : ℕ) → i < count → get_or area' (from' + i) 0 ≡ get_or area (from + i) 0) → take count (drop from' area') ≡ take count (drop from area)
part_same area area' from from' count p q h =
    let long = taken_length area from count p in
    let long' = taken_length area' from' count q in
    ext_get_or 0 (take count (drop from' area')) (take count (drop from area)) (long' ∙ sym long)
    (λ i k. let near : i < count = omega (arith, long', k) in
    part_at area' from' count i near ∙ (h i near ∙ sym (part_at area from count i near)))

-- the swap with its word elsewhere
abbrev pub at_word : Swap → ℕ → Swap
at_word s w = record { word = w; offset = s.offset; taken = s.taken; rest = s.rest; first = s.first; cell = s.cell; put = s.put }

pub new_moved : (area area' cells : List ℕ) (s : Swap) (word : ℕ) → s.word + old_length s ≤ length area → word + old_length s ≤ length area'
    → ((i : ℕ) → i < old_length s → get_or area' (word + i) 0 ≡ get_or area (s.word + i) 0) → new_word area' cells (at_word s word) ≡ new_word area cells s
unfolding new_word
new_moved area area' cells s word p q h =
    ap₂ (λ l r. l ++ ((s.first ∷ put_letters cells s) ++ r))
    (part_same area area' s.word word s.offset (omega arith) (omega arith) (λ i k. h i (omega arith)))
    (part_same area area' (s.word + (s.offset + s.taken)) (word + (s.offset + s.taken)) s.rest (omega arith) (omega arith) (λ i k. further i k))
  where
    further : (i : ℕ) → i < s.rest → get_or area' (word + (s.offset + s.taken) + i) 0 ≡ get_or area (s.word + (s.offset + s.taken) + i) 0
    further i k =
        let there : word + (s.offset + s.taken) + i ≡ word + (s.offset + s.taken + i) = omega arith in
        let here : s.word + (s.offset + s.taken + i) ≡ s.word + (s.offset + s.taken) + i = omega arith in
        ap (λ j. get_or area' j 0) there ∙ (h (s.offset + s.taken + i) (omega arith) ∙ ap (λ j. get_or area j 0) here)

-- while the new word is written beside it, the old one stays
pub new_kept : (area₀ cells : List ℕ) (s : Swap) (at i : ℕ) (v : Positive) (area : List ℕ) → Readable area₀ cells s → Apart s at → i ≤ new_length s
    → Writing area₀ at v i area → new_word area cells s ≡ new_word area₀ cells s
new_kept area₀ cells s at i v area r apart few w =
    new_moved area₀ area cells s s.word r.inside (omega (arith, r.inside, w.same_length)) (λ j k. go j k apart)
  where
    go : (j : ℕ) → j < old_length s → Apart s at → get_or area (s.word + j) 0 ≡ get_or area₀ (s.word + j) 0
    go j k (inl p) = w.below (s.word + j) (omega arith)
    go j k (inr p) = w.above (s.word + j) (omega arith)

-- BOTH

module _ (area₀ cells : List ℕ) (s : Swap) (at used : ℕ) (r : Readable area₀ cells s) (b : Beside s at used)
    (room : used + (new_length s + 1) ≤ length area₀) (area₁ : List ℕ) (sh : Shifted area₀ at used (new_length s + 1) area₁) where
  same_letters : (i : ℕ) → i < old_length s → get_or area₁ (moved_on s.word at (new_length s + 1) + i) 0 ≡ get_or area₀ (s.word + i) 0
  same_letters i k = go (dec_lt s.word at)
    where
      go : Dec (s.word < at) → get_or area₁ (moved_on s.word at (new_length s + 1) + i) 0 ≡ get_or area₀ (s.word + i) 0
      go (yes p) =
          ap (λ j. get_or area₁ (j + i) 0) (moved_before s.word at (new_length s + 1) p)
          ∙ sh.below (s.word + i) (omega (arith, b.before p))
      go (no p) =
          let there : s.word + (new_length s + 1) + i ≡ s.word + i + (new_length s + 1) = omega arith in
          ap (λ j. get_or area₁ (j + i) 0) (moved_after s.word at (new_length s + 1) (omega arith))
          ∙ (ap (λ j. get_or area₁ j 0) there ∙ sh.moved (s.word + i) (omega arith) (omega (arith, b.inside)))

  inside' : moved_on s.word at (new_length s + 1) + old_length s ≤ used + (new_length s + 1)
  inside' = go (dec_lt s.word at)
    where
      go : Dec (s.word < at) → moved_on s.word at (new_length s + 1) + old_length s ≤ used + (new_length s + 1)
      go (yes p) = omega (arith, moved_before s.word at (new_length s + 1) p, b.inside)
      go (no p) = omega (arith, moved_after s.word at (new_length s + 1) (omega arith), b.inside)

  pub insert_readable : Readable area₁ cells (at_word s (moved_on s.word at (new_length s + 1)))
  insert_readable =
      record {
        inside = omega (arith, inside', room, sh.same_length);
        some = r.some;
        few = r.few;
        held = r.held;
      }

  pub insert_apart : Apart (at_word s (moved_on s.word at (new_length s + 1))) at
  insert_apart = go (dec_lt s.word at)
    where
      go : Dec (s.word < at) → Apart (at_word s (moved_on s.word at (new_length s + 1))) at
      go (yes p) = inl (omega (arith, moved_before s.word at (new_length s + 1) p, b.before p))
      go (no p) = inr (omega (arith, moved_after s.word at (new_length s + 1) (omega arith)))

  pub insert_same : new_word area₁ cells (at_word s (moved_on s.word at (new_length s + 1))) ≡ new_word area₀ cells s
  insert_same =
      new_moved area₀ area₁ cells s (moved_on s.word at (new_length s + 1)) r.inside (omega (arith, inside', room, sh.same_length)) same_letters

  pub insert_opened : (area₂ : List ℕ) → Put area₁ at (new_word area₁ cells (at_word s (moved_on s.word at (new_length s + 1))) ++ (untried ∷ [])) area₂
      → Opened area₀ at used (new_word area₀ cells s ++ (untried ∷ [])) area₂
  insert_opened area₂ p = both (new_word area₁ cells (at_word s (moved_on s.word at (new_length s + 1)))) insert_same p
    where
      both : (w : Positive) → w ≡ new_word area₀ cells s → Put area₁ at (w ++ (untried ∷ [])) area₂
          → Opened area₀ at used (new_word area₀ cells s ++ (untried ∷ [])) area₂
      both w e p =
          let long : length (new_word area₀ cells s ++ (untried ∷ [])) ≡ new_length s + 1 =
          omega (arith, length-append (new_word area₀ cells s) (untried ∷ []), new_length_lem area₀ cells s r) in
          let long' : length (w ++ (untried ∷ [])) ≡ new_length s + 1 = ap (λ l. length (l ++ (untried ∷ []))) e ∙ long in
          record {
            same_length = p.same_length ∙ sh.same_length;
            below = λ i h. p.below i h ∙ sh.below i h;
            put = λ i h. p.put i (omega (arith, long, long')) ∙ ap (λ l. get_or (l ++ (untried ∷ [])) i 0) e;
            moved = λ i l h. ap (λ k. get_or area₂ (i + k) 0) long ∙ (p.above (i + (new_length s + 1)) (omega (arith, long')) ∙ sh.moved i l h);
            above = λ i h. p.above i (omega (arith, long, long', b.place)) ∙ sh.above i (omega (arith, long));
          }

-- bytes put between two parts of a list
pub opened_list : (before after : List ℕ) (bytes xs cs rest : List ℕ) → before ≡ xs ++ (cs ++ rest) → length bytes ≤ length rest
    → Opened before (length xs) (length xs + length cs) bytes after → after ≡ xs ++ (bytes ++ (cs ++ drop (length bytes) rest))
opened_list before after bytes xs cs rest e room o =
    ext_get_or 0 after (xs ++ (bytes ++ (cs ++ drop (length bytes) rest))) (o.same_length ∙ (long ∙ sym long'))
    (λ i h. at_index i (omega (arith, o.same_length, long)))
  where
    long : length before ≡ length xs + (length cs + length rest)
    long = ap length e ∙ (length-append xs (cs ++ rest) ∙ ap (λ k. length xs + k) (length-append cs rest))

    long' : length (xs ++ (bytes ++ (cs ++ drop (length bytes) rest))) ≡ length xs + (length cs + length rest)
    long' =
        length-append xs (bytes ++ (cs ++ drop (length bytes) rest))
        ∙ omega (arith, length-append bytes (cs ++ drop (length bytes) rest), length-append cs (drop (length bytes) rest), length-drop (length bytes) rest)

    -- the byte of each list at each index
    old_first : (i : ℕ) → i < length xs → get_or before i 0 ≡ get_or xs i 0
    old_first i h = ap (λ l. get_or l i 0) e ∙ get_or-append xs (cs ++ rest) 0 i h

    old_second : (i : ℕ) → i < length cs → get_or before (length xs + i) 0 ≡ get_or cs i 0
    old_second i h = ap (λ l. get_or l (length xs + i) 0) e ∙ (get_or-append-add xs (cs ++ rest) i 0 ∙ get_or-append cs rest 0 i h)

    old_third : (i : ℕ) → get_or before (length xs + (length cs + i)) 0 ≡ get_or rest i 0
    old_third i =
        ap (λ l. get_or l (length xs + (length cs + i)) 0) e ∙ (get_or-append-add xs (cs ++ rest) (length cs + i) 0 ∙ get_or-append-add cs rest i 0)

    further : (i j : ℕ) → i ≡ length xs + j → get_or (xs ++ (bytes ++ (cs ++ drop (length bytes) rest))) i 0
        ≡ get_or (bytes ++ (cs ++ drop (length bytes) rest)) j
        0
    further i j p =
        ap (λ k. get_or (xs ++ (bytes ++ (cs ++ drop (length bytes) rest))) k 0) p ∙ get_or-append-add xs (bytes ++ (cs ++ drop (length bytes) rest)) j 0

    second : (i j : ℕ) → i ≡ length xs + (length bytes + j) → get_or (xs ++ (bytes ++ (cs ++ drop (length bytes) rest))) i 0 ≡ get_or
        (cs ++ drop (length bytes) rest) j 0
    second i j p = further i (length bytes + j) p ∙ get_or-append-add bytes (cs ++ drop (length bytes) rest) j 0

    at_index : (i : ℕ) → i < length xs + (length cs + length rest) → get_or after i 0 ≡ get_or (xs ++ (bytes ++ (cs ++ drop (length bytes) rest))) i 0
    at_index i h = go (dec_lt i (length xs)) (dec_lt i (length xs + length bytes)) (dec_lt i (length xs + length bytes + length cs))
      where
        go : Dec (i < length xs) → Dec (i < length xs + length bytes) → Dec (i < length xs + length bytes + length cs)
            → get_or after i 0 ≡ get_or (xs ++ (bytes ++ (cs ++ drop (length bytes) rest))) i 0
        go (yes p) _ _ = o.below i p ∙ (old_first i p ∙ sym (get_or-append xs (bytes ++ (cs ++ drop (length bytes) rest)) 0 i p))
        go (no p) (yes q) _ =
            let j : i ≡ length xs + (i - length xs) = omega arith in
            ap (λ k. get_or after k 0) j
            ∙ (o.put (i - length xs) (omega arith)
            ∙ sym (further i (i - length xs) j ∙ get_or-append bytes (cs ++ drop (length bytes) rest) 0 (i - length xs) (omega arith)))
        go (no p) (no q) (yes r) =
            let j : i ≡ length xs + (length bytes + (i - length xs - length bytes)) = omega arith in
            let k : i ≡ length xs + (i - length xs - length bytes) + length bytes = omega arith in
            ap (λ k. get_or after k 0) k
            ∙ (o.moved (length xs + (i - length xs - length bytes)) (omega arith) (omega arith)
            ∙ (old_second (i - length xs - length bytes) (omega arith)
            ∙ sym (second i (i - length xs - length bytes) j ∙ get_or-append cs (drop (length bytes) rest) 0 (i - length xs - length bytes) (omega arith))))
        go (no p) (no q) (no r) =
            let n : i ≡ length xs + (length cs + (i - length xs - length cs)) = omega arith in
            let j : i ≡ length xs + (length bytes + (length cs + (i - length xs - length bytes - length cs))) = omega arith in
            let m : length bytes + (i - length xs - length bytes - length cs) ≡ i - length xs - length cs = omega arith in
            o.above i (omega arith)
            ∙ (ap (λ k. get_or before k 0) n
            ∙ (old_third (i - length xs - length cs)
            ∙ sym (second i (length cs + (i - length xs - length bytes - length cs)) j
            ∙ (get_or-append-add cs (drop (length bytes) rest) (i - length xs - length bytes - length cs) 0
            ∙ (get_or-drop (length bytes) rest (i - length xs - length bytes - length cs) 0 ∙ ap (λ k. get_or rest k 0) m)))))
