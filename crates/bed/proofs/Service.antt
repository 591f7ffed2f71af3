-- The outcome of bed, from those of the readers, and what its answer means.
use mathlib.Core.Path.{◌≡◌, refl, sym, ap, subst, ◌∙◌}
use mathlib.Core.List.{List}
use mathlib.Core.Bool.{Bool, true, false, not}
use Prim.Native.Nat.{ℕ, ◌<◌}
use native.Mathlib.Omega.{arith}
use native.Mathlib.Decide.{dec_lt}
use lib.ListN.{length, take, drop}
use lib.Seq.{take_at}
use Rattle.model.specs.declared.answers.Refusal.{Refusal}
use Rattle.model.specs.declared.answers.Refusal.TheVariants.{NotBraidTable}
use Rattle.std.specs.declared.result.Result.{Result}
use Rattle.model.specs.Word.{Word}
use Rattle.model.specs.Presentation.{Presentation}
use Rattle.model.specs.Outcome.{Outcome, answered, refused, ◌>>=◌, unless, mapped}
use Rattle.model.specs.Images.{read_table, read_program}
use Rattle.model.specs.Services.{fitted}
use Rattle.model.specs.Areas.{output_after}
use Rattle.model.specs.Stated.{refusal, packed_as}
use Rattle.model.specs.Bed.{is_braid, read_braid, bed_after, bed_bytes, bed}
use Rattle.model.proofs.Impossible.{impossible}
use Rattle.model.proofs.Fitted.{short_area, long_area}
use Rattle.model.proofs.Outcomes.{still_refused}
use Rattle.images.proofs.RoundTrip.{table_in_range, program_in_range}
use Rattle.theory.specs.Beds.{BedMeaning}
use Rattle.theory.proofs.Totals.{bed_meaning}
use Rattle.bed.specs.BraidTable.{BraidOf}
use Rattle.bed.specs.Shown.{Answers}
use Rattle.images.specs.Tables.{Loaded}
use Rattle.bed.specs.Meaning.{BedSays, BedPromise}

-- THE TABLE

pub table_refused : (image : List ℕ) (r : Refusal) → read_table image ≡ refusal r → read_braid image ≡ refusal r
unfolding read_braid
table_refused image r e = still_refused (read_table image) r e (λ T. unless (not (is_braid T)) 15 T)

module _ (image : List ℕ) (T : Presentation) (e : read_table image ≡ answered T) where
  read_is : read_braid image ≡ unless (not (is_braid T)) 15 T
  unfolding read_braid
  read_is = ap (λ o. o >>= λ T. unless (not (is_braid T)) 15 T) e

  pub braid_read : is_braid T ≡ true → read_braid image ≡ answered T
  braid_read b = read_is ∙ ap (λ t. unless (not t) 15 T) b

  pub braid_refused : is_braid T ≡ false → read_braid image ≡ refusal NotBraidTable
  braid_refused b = read_is ∙ ap (λ t. unless (not t) 15 T) b

pub braid_of : (image cells : List ℕ) (size : ℕ) (t : Loaded (read_table image) cells size) → is_braid t.table ≡ true → BraidOf image cells size
braid_of image cells size t b = record { table = t.table; read = braid_read image t.table t.read b; of = t.of }

-- THE OUTCOME

module _ (table program : List ℕ) (moves area : ℕ) where
  shown : Presentation → Outcome (List ℕ)
  shown T = read_program T.size program >>= λ w. fitted area (bed_bytes (bed_after T.size moves w))

  pub bed_no_table : (r : Refusal) → read_braid table ≡ refusal r → bed table program moves area ≡ refusal r
  unfolding bed shown
  bed_no_table r e = still_refused (read_braid table) r e shown

  module _ (T : Presentation) (e : read_braid table ≡ answered T) where
    bed_is : bed table program moves area ≡ shown T
    unfolding bed shown
    bed_is = ap (λ o. o >>= shown) e

    pub bed_no_program : (size : ℕ) → T.size ≡ size → (r : Refusal) → read_program size program ≡ refusal r → bed table program moves area ≡ refusal r
    unfolding shown
    bed_no_program size s r p =
        bed_is ∙ still_refused (read_program T.size program) r (ap (λ n. read_program n program) s ∙ p)
        (λ w. fitted area (bed_bytes (bed_after T.size moves w)))

    pub bed_shows : (size : ℕ) → T.size ≡ size → (w : Word) → read_program size program ≡ answered w → bed table program moves area ≡ fitted area
        (bed_bytes (bed_after size moves w))
    unfolding shown
    bed_shows size s w p =
        bed_is
        ∙ (ap (λ n. read_program n program >>= λ w. fitted area (bed_bytes (bed_after n moves w))) s
        ∙ ap (λ o. o >>= λ w. fitted area (bed_bytes (bed_after size moves w))) p)

-- THE MEANING

-- an outcome that is told as an answer has its bytes
told_bytes : (o : Outcome (List ℕ)) (k : ℕ) → mapped length o ≡ answered k → (bytes : List ℕ) × (o ≡ answered bytes) × (length bytes ≡ k)
told_bytes (answered bytes) k e = (bytes, refl, cc)
told_bytes (refused n ps) k e = impossible (cc)

same_bytes : (area : ℕ) (bytes other : List ℕ) → fitted area bytes ≡ answered other → other ≡ bytes
same_bytes area bytes other e = go (dec_lt area (length bytes))
  where
    go : Dec (area < length bytes) → other ≡ bytes
    go (yes l) = let s = short_area area bytes l in impossible (cc)
    go (no l) = let s = long_area area bytes (omega arith) in cc

module _ (table program : List ℕ) (moves : ℕ) (before after : List ℕ) (r : Result ℕ Refusal)
    (a : Answers (bed table program moves (length before)) before after r) where
  pub bed_says : BedSays table program moves (packed_as r) after
  bed_says T e w p k told =
      let t = told_bytes (bed table program moves (length before)) k (sym a.result ∙ told) in
      go (is_braid T) refl t.0 t.1 t.2
    where
      go : (b : Bool) → is_braid T ≡ b → (bytes : List ℕ) → bed table program moves (length before) ≡ answered bytes → length bytes ≡ k
          → BedMeaning T w moves (take k after)
      go true b bytes o n =
          let shows = bed_shows table program moves (length before) T (braid_read table T e b) T.size refl w p in
          let same : bytes ≡ bed_bytes (bed_after T.size moves w) = same_bytes (length before) (bed_bytes (bed_after T.size moves w)) bytes (sym shows ∙ o) in
          let left : take k after ≡ bytes = ap (take k) (a.area ∙ ap (λ o. output_after (λ b. b) o before) o)
          ∙ take_at bytes (drop (length bytes) before) k n in
          subst (BedMeaning T w moves) (sym (left ∙ same)) (bed_meaning T b w (program_in_range T.size (table_in_range table T e).few program w p) moves)
      go false b bytes o n =
          let no = bed_no_table table program moves (length before) NotBraidTable (braid_refused table T e b) in
          impossible (cc)

  -- the service's promise
  pub promised : BedPromise table program moves before after (packed_as r)
  promised = record { stated = a.result; answer_is = a.area; meaning = bed_says }
