-- One word after the other tried, until all are: then the words found are the listing.
use mathlib.Core.Path.{◌≡◌, refl, sym, ap, ap₂, subst, ◌∙◌}
use mathlib.Core.Logic.{◌⊎◌, inl, inr}
use mathlib.Core.List.Memᴰ
use mathlib.Core.List.{List, [], ◌∷◌, ◌++◌, append_assoc, Memᴰ}
use mathlib.Core.Bool.{Bool, true, false, cond}
use mathlib.Core.Option.{some}
use Prim.Native.Nat.{ℕ, suc, ◌+◌, ◌-◌, ◌%◌, ◌≤◌, ◌<◌}
use native.Mathlib.Omega.{arith}
use native.Mathlib.Decide.{dec_lt}
use lib.Dec.{eqb}
use lib.ListN.{length, take, drop, get_or, set, length-append, length-set, take-append-drop, get_or-append}
use lib.Seq.{length-take-le, get_or-take, get_or-append-add, take-set-lt, drop-set-lt, set_at}
use borrow.Author.Tests.{eq-eqb, ne_eqb}
use Rattle.model.specs.Word.{Positive}
use Rattle.model.specs.Equivalence.{Entry, applied, Joined}
use Rattle.model.specs.Ways.{Ordered, listing, listing_bytes}
use Rattle.model.proofs.Impossible.{impossible}
use Rattle.theory.specs.Ways.{Lists}
use Rattle.theory.proofs.Ways.{Closed, closed_lists, listing_meaning}
use Rattle.ways.specs.declared.trying.Held.{Held}
use Rattle.spans.specs.Ends.{is_ending, StartFound}
use Rattle.spans.proofs.Runs.{WordAt, start_is}
use Rattle.std.specs.Prelude.{Option, Some, None}
use Rattle.ways.specs.Marks.{untried, UntriedFound, FirstUntried}
use Rattle.ways.specs.Area.{Marked, entry_bytes, spelled, words, Legible, Spells}
use Rattle.ways.specs.State.{tried_count, Sound, Work, current, Busy, Progress, Any}
use Rattle.ways.specs.Listing.{Task, State, ListedAll}
use Rattle.ways.proofs.Spelling.{spelled_append, spelled_both, spelled_more, spells_length, word_at, word_begins, Holding, locate}
use Rattle.ways.proofs.Adding.{marked_member, busy_inside, more_member, more_keeps}

-- COUNTED

tried_few : (ms : List Marked) → tried_count ms ≤ length (spelled ms)
tried_few [] = omega arith
tried_few (m ∷ ms) = go (eqb m.mark 0) (tried_few ms)
  where
    go : (t : Bool) → tried_count ms ≤ length (spelled ms) → cond t (suc (tried_count ms)) (tried_count ms) ≤ length (spelled (m ∷ ms))
    go true rest = omega (arith, rest, spelled_more m ms)
    go false rest = omega (arith, rest, spelled_more m ms)

-- a word that was not tried makes one less
tried_fewer : (xs : List Marked) (m : Marked) (cs : List Marked) → m.mark ≡ untried → tried_count (xs ++ (m ∷ cs)) < length (spelled (xs ++ (m ∷ cs)))
tried_fewer [] m cs e =
    let skip : tried_count (m ∷ cs) ≡ tried_count cs = ap (λ t. cond t (suc (tried_count cs)) (tried_count cs)) (ne_eqb m.mark 0 (omega (arith, e))) in
    omega (arith, skip, tried_few cs, spelled_more m cs)
tried_fewer (x ∷ xs) m cs e = go (eqb x.mark 0) (tried_fewer xs m cs e)
  where
    go : (t : Bool) → tried_count (xs ++ (m ∷ cs)) < length (spelled (xs ++ (m ∷ cs)))
        → cond t (suc (tried_count (xs ++ (m ∷ cs)))) (tried_count (xs ++ (m ∷ cs))) < length (spelled (x ∷ (xs ++ (m ∷ cs))))
    go true rest = omega (arith, rest, spelled_more x (xs ++ (m ∷ cs)))
    go false rest = omega (arith, rest, spelled_more x (xs ++ (m ∷ cs)))

-- THE WORD AT A MARK

abbrev pub work_on : {cells : List ℕ} {size : ℕ} → Task cells size → Positive → ℕ → Work cells size
work_on k w count =
    record { table = k.table; of = k.of; program = k.program; weighed = k.weighed; before = k.before; word = w; count = count }

-- a byte that marks a word as untried ends it
pub record Untried (ms : List Marked) (end : ℕ) : Type 0 where
  pub pre : List Marked
  pub word : Positive
  pub post : List Marked
  pub parts : ms ≡ pre ++ (current word ∷ post)
  pub end_is : end ≡ length (spelled pre) + length word

module _ {cells : List ℕ} {size : ℕ} (k : Task cells size) (area : List ℕ) (used count : ℕ) (ms : List Marked)
    (s : Sound k.table k.program k.before area used ms count) where
  spelled_at : (i : ℕ) → i < used → get_or area i 0 ≡ get_or (spelled ms) i 0
  spelled_at i h = sym (get_or-take used area i 0 h) ∙ ap (λ l. get_or l i 0) s.spells.bytes

  pub find_untried : (end : ℕ) → end < used → get_or area end 0 ≡ untried → Untried ms end
  find_untried end l e = go (locate ms end (omega (arith, spells_length area used ms s.spells)))
    where
      go : Holding ms end → Untried ms end
      go t = by (dec_lt end (length (spelled t.pre) + length t.one.word))
        where
          parted : Spells area used (t.pre ++ (t.one ∷ t.post))
          parted = subst (Spells area used) t.parts s.spells

          at : WordAt area (length (spelled t.pre)) t.one.word
          at = word_at area used t.pre t.one t.post parted

          byte : (i : ℕ) → i < length t.one.word + 1 → get_or area (length (spelled t.pre) + i) 0 ≡ get_or (entry_bytes t.one) i 0
          byte i h =
              let room = length-append t.one.word (t.one.mark ∷ []) in
              spelled_at (length (spelled t.pre) + i)
              (omega (
                arith,
                spells_length area used (t.pre ++ (t.one ∷ t.post)) parted,
                spelled_both t.pre (t.one ∷ t.post),
                spelled_more t.one t.post,
              ))
              ∙ (ap (λ l. get_or (spelled l) (length (spelled t.pre) + i) 0) t.parts
              ∙ (ap (λ l. get_or l (length (spelled t.pre) + i) 0) (spelled_append t.pre (t.one ∷ t.post))
              ∙ (get_or-append-add (spelled t.pre) (spelled (t.one ∷ t.post)) i 0 ∙ get_or-append (entry_bytes t.one) (spelled t.post) 0 i
              (omega (arith, room)))))

          by : Dec (end < length (spelled t.pre) + length t.one.word) → Untried ms end
          by (yes p) =
              let from = t.from in
              let place : end ≡ length (spelled t.pre) + (end - length (spelled t.pre)) = omega arith in
              let letter : is_ending (get_or area end 0) ≡ false =
              ap (λ j. is_ending (get_or area j 0)) place
              ∙ (ap is_ending (at.letters (end - length (spelled t.pre)) (omega arith)) ∙ at.plain (end - length (spelled t.pre)) (omega arith)) in
              let ending : is_ending (get_or area end 0) ≡ true = ap is_ending e ∙ eq-eqb (untried % untried) 0 refl in
              impossible (cc)
          by (no p) =
              let to = t.to in
              let place : end ≡ length (spelled t.pre) + length t.one.word = omega arith in
              let zero_more : length t.one.word ≡ length t.one.word + 0 = omega arith in
              let mark : t.one.mark ≡ untried =
              sym (byte (length t.one.word) (omega arith)
              ∙ (ap (λ i. get_or (entry_bytes t.one) i 0) zero_more ∙ get_or-append-add t.one.word (t.one.mark ∷ []) 0 0))
              ∙ (ap (λ j. get_or area j 0) (sym place) ∙ e) in
              record {
                pre = t.pre;
                word = t.one.word;
                post = t.post;
                parts = t.parts ∙ ap (λ n. t.pre ++ (record { word = t.one.word; mark = n } ∷ t.post)) mark;
                end_is = place;
              }

  -- the work on that word
  pub busy_at : (end : ℕ) (t : Untried ms end) (start : ℕ) → StartFound area 0 end start
      → Busy (work_on k t.word count) area (record { word = start; letters = end - start; used = used })
  busy_at end t start f =
      let parted : Spells area used (t.pre ++ (current t.word ∷ t.post)) = subst (Spells area used) t.parts s.spells in
      let at = word_at area used t.pre (current t.word) t.post parted in
      let before = word_begins area used t.pre (current t.word) t.post parted in
      let begins : start ≡ length (spelled t.pre) =
      start_is area (length (spelled t.pre)) t.word at before 0 end start (omega arith) (omega (arith, t.end_is)) (omega (arith, t.end_is)) f in
      record {
        earlier_words = t.pre;
        later_words = t.post;
        sound = subst (λ l. Sound k.table k.program k.before area used l count) t.parts s;
        word_is = begins;
        letters_is = omega (arith, begins, t.end_is);
      }

  pub count_less : (end : ℕ) → Untried ms end → count < length area
  count_less end t =
      omega (
        arith,
        s.counted,
        ap tried_count t.parts,
        tried_fewer t.pre (current t.word) t.post refl,
        ap (λ l. length (spelled l)) t.parts,
        spells_length area used ms s.spells,
        s.spells.fits,
      )

-- MARKED AS TRIED

abbrev pub done : Positive → Marked
done w = record { word = w; mark = 0 }

same_words : (xs : List Marked) (m n : Marked) (cs : List Marked) → m.word ≡ n.word → words (xs ++ (m ∷ cs)) ≡ words (xs ++ (n ∷ cs))
same_words [] m n cs e = ap (λ w. w ∷ words cs) e
same_words (x ∷ xs) m n cs e = ap (λ l. x.word ∷ l) (same_words xs m n cs e)

count_done : (xs : List Marked) (w : Positive) (cs : List Marked) → tried_count (xs ++ (done w ∷ cs)) ≡ suc (tried_count (xs ++ (current w ∷ cs)))
count_done [] w cs =
    ap (λ t. cond t (suc (tried_count cs)) (tried_count cs)) (eq-eqb 0 0 refl)
    ∙ sym (ap (λ t. suc (cond t (suc (tried_count cs)) (tried_count cs))) (ne_eqb untried 0 (omega arith)))
count_done (x ∷ xs) w cs = go (eqb x.mark 0) (count_done xs w cs)
  where
    go : (t : Bool) → tried_count (xs ++ (done w ∷ cs)) ≡ suc (tried_count (xs ++ (current w ∷ cs)))
        → cond t (suc (tried_count (xs ++ (done w ∷ cs)))) (tried_count (xs ++ (done w ∷ cs)))
        ≡ suc (cond t (suc (tried_count (xs ++ (current w ∷ cs)))) (tried_count (xs ++ (current w ∷ cs))))
    go true rest = ap suc rest
    go false rest = rest

spelled_mark : (xs : List Marked) (m : Marked) (cs : List Marked) → spelled (xs ++ (m ∷ cs)) ≡ (spelled xs ++ m.word) ++ (m.mark ∷ spelled cs)
spelled_mark xs m cs =
    spelled_append xs (m ∷ cs)
    ∙ (ap (λ l. spelled xs ++ l) (append_assoc m.word (m.mark ∷ []) (spelled cs)) ∙ sym (append_assoc (spelled xs) m.word (m.mark ∷ spelled cs)))

module _ {cells : List ℕ} {size : ℕ} (g : Work cells size) (old : List Positive) (area : List ℕ) (h : Held) (p : Progress g old Any area h) where
  mark_at : h.word + h.letters ≡ length (spelled p.busy.earlier_words ++ g.word)
  mark_at = omega (arith, p.busy.word_is, p.busy.letters_is, length-append (spelled p.busy.earlier_words) g.word)

  pub mark_inside : h.word + h.letters < h.used
  mark_inside = omega (arith, busy_inside g area h p.busy)

  pub marked_sound : Sound g.table g.program g.before (set area (h.word + h.letters) 0) h.used
      (p.busy.earlier_words ++ (done g.word ∷ p.busy.later_words)) (g.count + 1)
  marked_sound =
      record {
        spells = record {
          fits = omega (arith, s.spells.fits, length-set area (h.word + h.letters) 0);
          bytes =
              take-set-lt h.used area (h.word + h.letters) 0 mark_inside
              ∙ (ap (λ l. set l (h.word + h.letters) 0) (s.spells.bytes ∙ spelled_mark xs (current g.word) cs)
              ∙ (set_at (spelled xs ++ g.word) untried (spelled cs) 0 (h.word + h.letters) (sym mark_at) ∙ sym (spelled_mark xs (done g.word) cs)));
          legible = λ m n. readable m (more_member xs cs (done g.word) m n);
          ordered = subst Ordered (same_words xs (current g.word) (done g.word) cs refl) s.spells.ordered;
        };
        same_length = length-set area (h.word + h.letters) 0 ∙ s.same_length;
        rest = drop-set-lt h.used area (h.word + h.letters) 0 mark_inside ∙ s.rest;
        joined = λ m n. joins m (more_member xs cs (done g.word) m n);
        has = listed s.has;
        marks = λ m n. marked m (more_member xs cs (done g.word) m n);
        tried = λ m n e v d a. trying m e v d a (more_member xs cs (done g.word) m n);
        counted = count_done xs g.word cs ∙ (ap suc s.counted ∙ omega arith);
      }
    where
      xs : List Marked
      xs = p.busy.earlier_words

      cs : List Marked
      cs = p.busy.later_words

      s : Sound g.table g.program g.before area h.used (p.busy.earlier_words ++ (current g.word ∷ p.busy.later_words)) g.count
      s = p.busy.sound

      here : Memᴰ (current g.word) (p.busy.earlier_words ++ (current g.word ∷ p.busy.later_words))
      here = Memᴰ.append_right p.busy.earlier_words (Memᴰ.head refl)

      other : (m : Marked) → Memᴰ m (p.busy.earlier_words ++ p.busy.later_words)
          → Memᴰ m (p.busy.earlier_words ++ (current g.word ∷ p.busy.later_words))
      other m n = more_keeps p.busy.earlier_words p.busy.later_words (current g.word) m n

      listed : {x : Positive} → Memᴰ x (words (p.busy.earlier_words ++ (current g.word ∷ p.busy.later_words)))
          → Memᴰ x (words (p.busy.earlier_words ++ (done g.word ∷ p.busy.later_words)))
      listed {x} n = subst (Memᴰ x) (same_words p.busy.earlier_words (current g.word) (done g.word) p.busy.later_words refl) n

      readable : (m : Marked) → (m ≡ done g.word) ⊎ Memᴰ m (p.busy.earlier_words ++ p.busy.later_words) → Legible m
      readable m (inl e) =
          subst Legible (sym e) (record { letters = (s.spells.legible (current g.word) here).letters; ends = eq-eqb (0 % untried) 0 refl })
      readable m (inr n) = s.spells.legible m (other m n)

      joins : (m : Marked) → (m ≡ done g.word) ⊎ Memᴰ m (p.busy.earlier_words ++ p.busy.later_words) → Joined g.table g.program m.word
      joins m (inl e) = subst (λ x. Joined g.table g.program x.word) (sym e) (s.joined (current g.word) here)
      joins m (inr n) = s.joined m (other m n)

      marked : (m : Marked) → (m ≡ done g.word) ⊎ Memᴰ m (p.busy.earlier_words ++ p.busy.later_words) → (m.mark ≡ 0) ⊎ (m.mark ≡ untried)
      marked m (inl e) = inl (ap (λ x. x.mark) e)
      marked m (inr n) = s.marks m (other m n)

      trying : (m : Marked) → m.mark ≡ 0 → (v : Positive) (d : Entry) → applied g.table m.word d ≡ some v
          → (m ≡ done g.word) ⊎ Memᴰ m (p.busy.earlier_words ++ p.busy.later_words)
          → Memᴰ v (words (p.busy.earlier_words ++ (done g.word ∷ p.busy.later_words)))
      trying m e v d a (inl q) = listed (p.swaps d v tt (ap (λ x. applied g.table x.word d) (sym q) ∙ a))
      trying m e v d a (inr n) = listed (s.tried m (other m n) e v d a)

-- ALL TRIED

-- where each mark stands
mark_index : (ms : List Marked) (m : Marked) → Memᴰ m ms → (i : ℕ) × (i < length (spelled ms)) × (get_or (spelled ms) i 0 ≡ m.mark)
mark_index [] m n = absurd (Memᴰ.not-nil n)
mark_index (x ∷ ms) m n = go (Memᴰ.cases_cons n) (mark_index ms m)
  where
    go : (m ≡ x) ⊎ Memᴰ m ms → (Memᴰ m ms → (i : ℕ) × (i < length (spelled ms)) × (get_or (spelled ms) i 0 ≡ m.mark))
        → (i : ℕ) × (i < length (spelled (x ∷ ms))) × (get_or (spelled (x ∷ ms)) i 0 ≡ m.mark)
    go (inl e) rest = (
      length x.word + 0,
      omega (arith, spelled_more x ms),
      get_or-append (entry_bytes x) (spelled ms) 0 (length x.word + 0) (omega (arith, length-append x.word (x.mark ∷ [])))
          ∙ (get_or-append-add x.word (x.mark ∷ []) 0 0 ∙ ap (λ y. y.mark) (sym e)),
    )
    go (inr k) rest =
        let t = rest k in (
          length (entry_bytes x) + t.0,
          omega (arith, t.1, length-append (entry_bytes x) (spelled ms)),
          get_or-append-add (entry_bytes x) (spelled ms) t.0 0
              ∙ t.2,
        )

all_zero_bytes : (ms : List Marked) → ((m : Marked) → Memᴰ m ms → m.mark ≡ 0) → spelled ms ≡ listing_bytes (words ms)
all_zero_bytes [] h = refl
all_zero_bytes (m ∷ ms) h =
    ap₂ (λ x l. (m.word ++ (x ∷ [])) ++ l) (h m (Memᴰ.head refl)) (all_zero_bytes ms (λ y n. h y (Memᴰ.tail n)))

all_zero_count : (ms : List Marked) → ((m : Marked) → Memᴰ m ms → m.mark ≡ 0) → tried_count ms ≡ length (words ms)
all_zero_count [] h = refl
all_zero_count (m ∷ ms) h =
    ap (λ t. cond t (suc (tried_count ms)) (tried_count ms)) (eq-eqb m.mark 0 (h m (Memᴰ.head refl)))
    ∙ ap suc (all_zero_count ms (λ y n. h y (Memᴰ.tail n)))

module _ {cells : List ℕ} {size : ℕ} (k : Task cells size) (area : List ℕ) (used count : ℕ) (ms : List Marked)
    (s : Sound k.table k.program k.before area used ms count) (r : ℕ) (f : UntriedFound area used r) (end : used ≤ r) where
  zero_marks : (m : Marked) → Memᴰ m ms → m.mark ≡ 0
  zero_marks m n = go (s.marks m n)
    where
      go : (m.mark ≡ 0) ⊎ (m.mark ≡ untried) → m.mark ≡ 0
      go (inl e) = e
      go (inr e) =
          let t = mark_index ms m n in
          let near : t.0 < used = omega (arith, t.1, spells_length area used ms s.spells) in
          absurd (f.tried t.0 (omega arith) (spelled_at k area used count ms s t.0 near ∙ (t.2 ∙ e)))

  closed : Closed k.table (words ms)
  closed v w e n a =
      let t = marked_member ms v n in
      s.tried t.0 t.1 (zero_marks t.0 t.1) w e (ap (λ x. applied k.table x e) t.2 ∙ a)

  lists : Lists k.table k.program (words ms)
  lists =
      closed_lists k.table k.program (words ms)
      (record {
        ordered = s.spells.ordered;
        joined = λ w n. let t = marked_member ms w n in subst (Joined k.table k.program) t.2 (s.joined t.0 t.1);
        has = s.has;
      }) closed

  is_listing : words ms ≡ listing k.table k.program
  is_listing = (listing_meaning k.table k.program k.weighed).only (words ms) lists

  bytes_listed : spelled ms ≡ listing_bytes (listing k.table k.program)
  bytes_listed = all_zero_bytes ms zero_marks ∙ ap listing_bytes is_listing

  pub all_listed : ListedAll k area count used
  all_listed =
      let used_is : used ≡ length (listing_bytes (listing k.table k.program)) = spells_length area used ms s.spells ∙ ap length bytes_listed in
      record {
        area_is =
            sym (take-append-drop used area)
            ∙ (ap₂ (λ l t. l ++ t) (s.spells.bytes ∙ bytes_listed) s.rest
            ∙ ap (λ n. listing_bytes (listing k.table k.program) ++ drop n k.before) used_is);
        words_are = sym s.counted ∙ (all_zero_count ms zero_marks ∙ ap length is_listing);
        bytes_are = used_is;
      }

-- THE NEXT WORD

-- what is found in the bytes that are used is found in the area
found_inside : (area : List ℕ) (used r : ℕ) → used ≤ length area → UntriedFound (take used area) used r → UntriedFound area used r
found_inside area used r h f =
    record {
      within = f.within;
      tried = λ i l e. f.tried i l (get_or-take used area i 0 (omega (arith, f.within)) ∙ e);
      marked = λ l. sym (get_or-take used area r 0 l) ∙ f.marked l;
    }

pub first_inside : (area : List ℕ) (used : ℕ) (r : Option ℕ) → used ≤ length area → FirstUntried (take used area) (length (take used area)) r
    → FirstUntried area used r
first_inside area used r h f = go r (subst (λ n. FirstUntried (take used area) n r) (length-take-le used area h) f)
  where
    go : (r : Option ℕ) → FirstUntried (take used area) used r → FirstUntried area used r
    go None g = found_inside area used used h g
    go (Some end) g = (found_inside area used end h g.0, g.1)

module _ {cells : List ℕ} {size : ℕ} (k : Task cells size) (area : List ℕ) (used count : ℕ) (t : State k area used count)
    (end : ℕ) (l : end < used) (f : UntriedFound area used end) where
  next : Untried t.0 end
  next = find_untried k area used count t.0 t.1 end l (f.marked l)

  pub next_word : Positive
  next_word = next.word

  pub next_busy : (start : ℕ) → StartFound area 0 end start
      → Busy (work_on k next_word count) area (record { word = start; letters = end - start; used = used })
  unfolding next_word
  next_busy start s = busy_at k area used count t.0 t.1 end next start s

  pub next_count : count < length area
  next_count = count_less k area used count t.0 t.1 end next

  pub next_state : (old : List Positive) (after : List ℕ) (h : Held) → Progress (work_on k next_word count) old Any after h
      → State k (set after (h.word + h.letters) 0) h.used (count + 1)
  next_state old after h p =
      (p.busy.earlier_words ++ (done next_word ∷ p.busy.later_words), marked_sound (work_on k next_word count) old after h p)
