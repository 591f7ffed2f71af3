-- A reader taken as often as said: one turn more, a refusal, the end. Where every value has the same size, its number gives its place.
use mathlib.Core.Path.{◌≡◌, refl, sym, ap, ◌∙◌}
use mathlib.Core.List.{List, [], ◌∷◌, ◌++◌, append_assoc, append-nil}
use Prim.Native.Nat.{ℕ, zero, suc, ◌+◌, ◌*◌, ◌<◌}
use native.Mathlib.Omega.{arith}
use native.Mathlib.Nat.{suc-mul, zero-mul}
use lib.ListN.{length, drop, get_or}
use Rattle.model.specs.Outcome.{Place, Outcome, answered, refused, ◌>>=◌}
use Rattle.model.specs.Bits.{Read}
use Rattle.model.specs.Images.{several, rows_of}
use Rattle.model.proofs.Impossible.{answer_of, same_answer}

pub bind_assoc : {A B C : Type 0} (o : Outcome A) (f : A → Outcome B) (g : B → Outcome C) → ((o >>= f) >>= g) ≡ (o >>= λ x. f x >>= g)
bind_assoc (answered x) f g = refl
bind_assoc (refused n ps) f g = refl

-- what is left to read, after values that were read
unfoldable pub after : {A : Type 0} → List A → Outcome (Read (List A)) → Outcome (Read (List A))
after done o = o >>= λ rs. answered (record { value = done ++ rs.value; rest = rs.rest })

pub after_none : {A : Type 0} (o : Outcome (Read (List A))) → after [] o ≡ o
unfolding after
after_none (answered r) = refl
after_none (refused n ps) = refl

after_one : {A : Type 0} (done : List A) (x : A) (o : Outcome (Read (List A)))
    → after done (o >>= λ rs. answered (record { value = x ∷ rs.value; rest = rs.rest })) ≡ after (done ++ (x ∷ [])) o
unfolding after
after_one done x (answered r) = ap (λ l. answered (record { value = l; rest = r.rest })) (sym (append_assoc done (x ∷ []) r.value))
after_one done x (refused n ps) = refl

module _ {A : Type 0} (reader : List ℕ → Outcome (Read A)) where
  one_of : ℕ → Outcome (Read A) → Outcome (Read (List A))
  one_of k o = o >>= λ r. several reader k r.rest >>= λ rs. answered (record { value = r.value ∷ rs.value; rest = rs.rest })

  pub several_step : (done : List A) (k : ℕ) (input : List ℕ) (r : Read A) → reader input ≡ answered r
      → after done (several reader (suc k) input) ≡ after (done ++ (r.value ∷ [])) (several reader k r.rest)
  unfolding one_of
  several_step done k input r e = ap (λ o. after done (one_of k o)) e ∙ after_one done r.value (several reader k r.rest)

  pub several_refused : (done : List A) (k : ℕ) (input : List ℕ) (n : ℕ) (ps : Place) → reader input ≡ refused n ps
      → after done (several reader (suc k) input) ≡ refused n ps
  unfolding after one_of
  several_refused done k input n ps e = ap (λ o. after done (one_of k o)) e

  pub several_done : (done : List A) (input : List ℕ) → after done (several reader zero input) ≡ answered (record { value = done; rest = input })
  unfolding after
  several_done done input = ap (λ l. answered (record { value = l; rest = input })) (append-nil done)

  -- the rows, likewise
  row_of : ℕ → Outcome (Read (List A)) → Outcome (Read (List (List A)))
  row_of k o = o >>= λ r. rows_of reader k r.rest >>= λ rs. answered (record { value = r.value ∷ rs.value; rest = rs.rest })

  pub rows_step : (done : List (List A)) (k : ℕ) (input : List ℕ) (r : Read (List A)) → several reader k input ≡ answered r
      → after done (rows_of reader (suc k) input) ≡ after (done ++ (r.value ∷ [])) (rows_of reader k r.rest)
  unfolding row_of
  rows_step done k input r e = ap (λ o. after done (row_of k o)) e ∙ after_one done r.value (rows_of reader k r.rest)

  pub rows_refused : (done : List (List A)) (k : ℕ) (input : List ℕ) (n : ℕ) (ps : Place) → several reader k input ≡ refused n ps
      → after done (rows_of reader (suc k) input) ≡ refused n ps
  unfolding after row_of
  rows_refused done k input n ps e = ap (λ o. after done (row_of k o)) e

  pub rows_done : (done : List (List A)) (input : List ℕ) → after done (rows_of reader zero input) ≡ answered (record { value = done; rest = input })
  unfolding after
  rows_done done input = ap (λ l. answered (record { value = l; rest = input })) (append-nil done)

  pub several_length : (k : ℕ) (input : List ℕ) (r : Read (List A)) → several reader k input ≡ answered r → length r.value ≡ k
  several_length zero input r e = ap (λ r. length r.value) (sym (same_answer (record { value = []; rest = input }) r e))
  several_length (suc k) input r e =
      let h = answer_of (reader input) (λ r. several reader k r.rest >>= λ rs. answered (record { value = r.value ∷ rs.value; rest = rs.rest })) r e in
      let t = answer_of (several reader k h.0.rest) (λ rs. answered (record { value = h.0.value ∷ rs.value; rest = rs.rest })) r h.2 in
      ap (λ r. length r.value) (sym (same_answer (record { value = h.0.value ∷ t.0.value; rest = t.0.rest }) r t.2))
      ∙ ap suc (several_length k h.0.rest t.0 t.1)

  -- where every value has the same size, the i-th stands at i times that size
  module _ (bits : List ℕ) (size : ℕ) (steady : (at : ℕ) (r : Read A) → reader (drop at bits) ≡ answered r → r.rest ≡ drop (at + size) bits) where
    pub value_at : (k at : ℕ) (r : Read (List A)) → several reader k (drop at bits) ≡ answered r → (i : ℕ) → i < k → (d : A)
        → reader (drop (at + i * size) bits) ≡ answered (record { value = get_or r.value i d; rest = drop (at + i * size + size) bits })
    value_at zero at r e i h d = absurd (omega arith)
    value_at (suc k) at r e zero h d =
        let f = answer_of (reader (drop at bits))
        (λ r. several reader k r.rest >>= λ rs. answered (record { value = r.value ∷ rs.value; rest = rs.rest })) r e in
        let t = answer_of (several reader k f.0.rest) (λ rs. answered (record { value = f.0.value ∷ rs.value; rest = rs.rest })) r f.2 in
        let z : at + 0 * size ≡ at = omega (arith, zero-mul size) in
        ap (λ n. reader (drop n bits)) z
        ∙ (f.1
        ∙ (ap (λ rest. answered (record { value = f.0.value; rest = rest })) (steady at f.0 f.1)
        ∙ (ap (λ n. answered (record { value = f.0.value; rest = drop (n + size) bits })) (sym z)
        ∙ ap (λ r. answered (record { value = get_or r.value 0 d; rest = drop (at + 0 * size + size) bits }))
        (same_answer (record { value = f.0.value ∷ t.0.value; rest = t.0.rest }) r t.2))))
    value_at (suc k) at r e (suc i) h d =
        let f = answer_of (reader (drop at bits))
        (λ r. several reader k r.rest >>= λ rs. answered (record { value = r.value ∷ rs.value; rest = rs.rest })) r e in
        let t = answer_of (several reader k f.0.rest) (λ rs. answered (record { value = f.0.value ∷ rs.value; rest = rs.rest })) r f.2 in
        let z : at + suc i * size ≡ at + size + i * size = omega (arith, suc-mul i size) in
        let u : several reader k (drop (at + size) bits) ≡ answered t.0 = ap (several reader k) (sym (steady at f.0 f.1)) ∙ t.1 in
        ap (λ n. reader (drop n bits)) z
        ∙ (value_at k (at + size) t.0 u i (omega arith) d
        ∙ (ap (λ n. answered (record { value = get_or t.0.value i d; rest = drop (n + size) bits })) (sym z)
        ∙ ap (λ r. answered (record { value = get_or r.value (suc i) d; rest = drop (at + suc i * size + size) bits }))
        (same_answer (record { value = f.0.value ∷ t.0.value; rest = t.0.rest }) r t.2)))
