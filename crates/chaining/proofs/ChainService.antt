-- Listing a chain after a comparison, and the outcome of chain after its reading.
use mathlib.Core.Path.{◌≡◌, refl, sym, ap, ap₂, subst, ◌∙◌}
use mathlib.Core.List.{List, [], ◌++◌}
use mathlib.Core.Bool.{Bool, true, false}
use Prim.Native.Nat.{ℕ, ◌+◌, ◌-◌, ◌≤◌, ◌<◌}
use native.Mathlib.Omega.{arith}
use native.Mathlib.Decide.{dec_lt}
use lib.Dec.{ltb}
use lib.ListN.{length, length-append}
use Rattle.model.specs.Word.{Word, Positive, positive, negative}
use Rattle.model.specs.Presentation.{Presentation, complete, weight_of, weigh}
use Rattle.model.specs.Reversing.{finished, reversing}
use Rattle.model.specs.Outcome.{Outcome, answered, refused, ◌>>=◌, unless, mapped}
use Rattle.model.specs.Images.{read_program, chain_image, most_size}
use Rattle.model.specs.Services.{Verdict, same_after, different_after, read_forward, comparison, chain_bytes, listable, ChainAnswer, listed_after}
use Rattle.model.specs.Services.{unlisted_after}
use Rattle.model.specs.Services.{chain_answer, verdict_in, chain, Images, read_images}
use Rattle.model.specs.Areas.{Compares, Listed, ChainArea, workspace_after}
use Rattle.model.specs.Stated.{refusal, compared}
use Rattle.model.specs.declared.answers.Refusal.{Refusal}
use Rattle.std.specs.Prelude.{Ok}
use Rattle.std.specs.declared.result.Result.{Result}
use Rattle.model.specs.declared.answers.Compared.{Compared}
use Rattle.model.specs.declared.answers.Compared.TheVariants.{Same}
use Rattle.model.proofs.Impossible.{impossible, answer_of, same_answer}
use Rattle.model.proofs.Reversal.{reversing_long}
use Rattle.model.proofs.Equiv.{Homogeneous}
use Rattle.theory.proofs.Clearing.{clear_homogeneous}
use Rattle.theory.proofs.Passages.{lead_joins}
use Rattle.theory.proofs.Comparison.{answered_clear}
use Rattle.theory.specs.Verdicts.{VerdictMeaning}
use Rattle.theory.proofs.Verdicts.{demand_three_told}
use Rattle.model.specs.Range.{ProgramInRange, Lettered}
use Rattle.images.specs.Programs.{ForwardOf}
use Rattle.images.proofs.RoundTrip.{chain_reads_back, program_in_range}
use Rattle.cells.specs.Stands.{Of}
use Rattle.cells.proofs.Rules.{of_few, weight_within}
use Rattle.engine.proofs.Lettering.{length_positive, length_negative}
use Rattle.chain_listing.specs.Listing.{Chained, Listable, Compared as Listed-from}
use Rattle.comparing.specs.Compare.{Ended, EndedIf, Judged, CompareSays}
use Rattle.loading.specs.Loading.{Forward}
use Rattle.loading.specs.Reversing.{LoadedPrograms, Loads}
use Rattle.chaining.specs.Chain.{EndsSame, Area, ListedAs, JoinsChecked, ListedChecks, ChainPromise}
use Rattle.loading.proofs.Outcomes.{AsFound}
use Rattle.loading.proofs.Reading.{programs_refused, programs_run}
use Rattle.chain_check.proofs.CheckService.{check_runs}

-- what is listed tells the verdict back
verdict_back : (n : ℕ) (o : Outcome Verdict) → mapped verdict_in (mapped (chain_answer n) o) ≡ o
verdict_back n (answered (same_after k r)) = refl
verdict_back n (answered (different_after k)) = refl
verdict_back n (refused i place) = refl

-- and the workspace after it is that after the verdict
answer_workspace : (n : ℕ) (o : Outcome Verdict) (area : List ℕ) → workspace_after (mapped (chain_answer n) o) area ≡ workspace_after o area
answer_workspace n (answered v) area = refl
answer_workspace n (refused i place) area = refl

-- THE LISTING

-- a reversing that finished began with a word that fits
finished_fits : (T : Presentation) (budget room : ℕ) (w : Word) (n d : Positive) (k r : ℕ) → reversing T budget room w ≡ finished n d k r → length w ≤ room
finished_fits T budget room w n d k r e = go (dec_lt room (length w))
  where
    go : Dec (room < length w) → length w ≤ room
    go (yes h) = let f = reversing_long T budget room w h in impossible (cc (f, e))
    go (no h) = omega arith

programs_fit : (T : Presentation) (u v : Positive) (budget room k r : ℕ) → Ended T u v budget room k r → length u + length v ≤ room
programs_fit T u v budget room k r e =
    let h = finished_fits T budget room (negative u ++ positive v) [] [] k r e.empty in
    omega (arith, length-append (negative u) (positive v), length_negative u, length_positive v)

-- a verdict `same` in a workspace of as many bytes
pub ends_same : (T : Presentation) (u v : Positive) (budget : ℕ) (before after : List ℕ) → length after ≡ length before → (verdict : Compared) (k r : ℕ)
    → verdict ≡ Same k r → Judged T u v budget (length before) (Ok verdict) → (b steps : ℕ) × Ended T u v b (length after) steps r
ends_same T u v budget before after long verdict k r is j =
    (budget, k, subst (λ i. Ended T u v budget i k r) (sym long) (subst (λ w. EndedIf T u v budget (length before) (Ok w)) is j.ended))

pub listed_of : (T : Presentation) (u v : Positive) (r : ℕ) (before after : List ℕ) → T.size ≤ most_size → Chained T u v r before after
    → Listed T u v r (chain_bytes T.size r) before after
listed_of T u v r before after few c =
    record {
      entries = c.entries;
      leads = c.leads;
      counted = c.counted;
      long = c.long;
      written = c.written;
      readable = chain_reads_back T.size few c.entries (record { short = c.short; entries = c.fit });
    }

-- what the listing asks, from the comparison and the programs that were loaded again
module _ (cells : List ℕ) (size : ℕ) (T : Presentation) (o : Of cells size T) (u v : Positive) (first second : List ℕ) (firsts seconds : ℕ)
    (one : ForwardOf first size firsts)
    (two : ForwardOf second size seconds) (eu : one.word ≡ u) (ev : two.word ≡ v) (budget room k r : ℕ) (e : Ended T u v budget room k r) (bytes : List ℕ)
    (right : ℕ)
    (same_room : length bytes ≡ room) (l : LoadedPrograms cells T u v bytes firsts right) (area : ℕ) (enough : chain_bytes size r ≤ area) where
  few : size ≤ most_size
  few = of_few o

  named : (w : Positive) (image : List ℕ) → read_program size image ≡ answered (positive w) → ProgramInRange size (positive w)
  named w image q = program_in_range size few image (positive w) q

  first_range : ProgramInRange size (positive u)
  first_range = named u first (one.read_signed ∙ ap (λ x. answered (positive x)) eu)

  second_range : ProgramInRange size (positive v)
  second_range = named v second (two.read_signed ∙ ap (λ x. answered (positive x)) ev)

  lettered : (w : Positive) → ProgramInRange size (positive w) → Lettered T.size (positive w)
  lettered w p = subst (λ i. Lettered i (positive w)) (sym o.sized) p.letters

  listed_from : Listed-from cells size bytes firsts right r area T u v k
  listed_from =
      record {
        stands = o.stands;
        size_is = sym o.sized;
        even = clear_homogeneous T budget room e.clear;
        short = omega (arith, first_range.short, length_positive u, weight_within cells T o.stands u (lettered u first_range));
        first_named = lettered u first_range;
        second_named = lettered v second_range;
        ordered = l.searched.ordered;
        inside = l.searched.inside;
        first_length = ap length (sym eu) ∙ one.count_is;
        word = l.word;
        budget = budget;
        same = ap (λ i. reversing T budget i (negative u ++ positive v)) same_room ∙ e.empty;
        enough = enough;
      }

-- two loaded programs whose comparison said `same`
module _ {cells : List ℕ} {size : ℕ} {first : List ℕ} {firsts : ℕ} {second : List ℕ} {seconds : ℕ} (f : Forward cells size first firsts second seconds)
    (before : List ℕ) (r : ℕ) (same : EndsSame cells size first second (length before) r) where
  pub both_fit : firsts + seconds ≤ length before
  both_fit =
      let p = f.pair in
      let e = same f.table f.of p.one.word p.two.word p.one.read p.two.read in
      omega (arith, programs_fit f.table p.one.word p.two.word e.0 (length before) e.1 r e.2, p.one.count_is, p.two.count_is)

  module _ (bytes : List ℕ) (l : Loads size first firsts second seconds before bytes) (area : ℕ) (enough : chain_bytes size r ≤ area) where
    pub asked : (T : Presentation) (o : Of cells size T) (u v : Positive) (eu : read_forward size first ≡ answered u)
        (ev : read_forward size second ≡ answered v)
        → Listed-from cells size bytes firsts (length before - seconds) r area T u v (same T o u v eu ev).1
    asked T o u v eu ev =
        let p = f.pair in
        let e = same T o u v eu ev in
        listed_from cells size T o u v first second firsts seconds p.one p.two (same_answer p.one.word u (sym p.one.read ∙ eu))
        (same_answer p.two.word v (sym p.two.read ∙ ev)) e.0 (length before) e.1 r e.2 bytes (length before - seconds) l.same_length
        (l.loads cells T o u v eu ev) area enough

    pub listable_loaded : Listable cells size bytes firsts (length before - seconds) r area
    listable_loaded =
        let p = f.pair in
        (f.table, p.one.word, p.two.word, _, asked f.table f.of p.one.word p.two.word p.one.read p.two.read)

-- THE SERVICE

module _ (table first second : List ℕ) (budget room area : ℕ) where
  abbrev lists : Images Positive → Outcome ChainAnswer
  lists p = mapped (chain_answer p.table.size) (comparison p.table p.first p.second budget room >>= listable p.table.size area)

  chain_refused : (r : Refusal) → read_images read_forward table first second ≡ refusal r → AsFound (chain table first second budget room area) r
  unfolding chain
  chain_refused = programs_refused table first second lists

  chain_runs : (T : Presentation) (u v : Positive) → Compares table first second T u v
      → chain table first second budget room area ≡ mapped (chain_answer T.size) (comparison T u v budget room >>= listable T.size area)
  unfolding chain
  chain_runs = programs_run table first second lists

  -- what is told of a verdict gives the verdict back
  shown : (n : ℕ) (x : Verdict) (y : Verdict) → listable n area x ≡ answered y → x ≡ y
  shown n (same_after k r) y e = by_room (ltb area (chain_bytes n r)) e
    where
      by_room : (t : Bool) → unless t 13 (same_after k r) ≡ answered y → same_after k r ≡ y
      by_room true q = impossible (cc)
      by_room false q = cc
  shown n (different_after k) y e = cc

  chain_means : (o : Outcome ChainAnswer) → o ≡ chain table first second budget room area
      → CompareSays table first second budget room (λ T v. listable T.size area v) (mapped verdict_in o)
  chain_means o e T u v c =
      subst (VerdictMeaning T u v budget room (listable T.size area))
      (sym (ap (mapped verdict_in) (e ∙ chain_runs T u v c) ∙ verdict_back T.size (comparison T u v budget room >>= listable T.size area)))
      (demand_three_told T u v budget room (listable T.size area) (shown T.size) (λ k. refl))

  -- only a comparison that said `same` is told so
  same_told : (T : Presentation) (u v : Positive) → Compares table first second T u v → (k r bytes : ℕ)
      → answered (listed_after k r bytes) ≡ chain table first second budget room area → comparison T u v budget room ≡ answered (same_after k r)
  same_told T u v c k r bytes e =
      let told = ap (mapped verdict_in) (e ∙ chain_runs T u v c) ∙ verdict_back T.size (comparison T u v budget room >>= listable T.size area) in
      let x = answer_of (comparison T u v budget room) (listable T.size area) (same_after k r) (sym told) in
      x.1 ∙ ap answered (shown T.size x.0 (same_after k r) x.2)

-- the answer area of the service
module _ (table first second before after : List ℕ) where
  area_listed : (T : Presentation) (u v : Positive) → Compares table first second T u v → (o : Outcome Verdict) → Area T u v before after o
      → ChainArea table first second before after (mapped (chain_answer T.size) o)
  area_listed T u v c (answered (same_after k r)) l = (T, u, v, c, l)
  area_listed T u v c (answered (different_after k)) l = l
  area_listed T u v c (refused n ps) l = l

-- and what check says of it
module _ (table first second : List ℕ) (budget room : ℕ) (before after : List ℕ) where
  -- the table cleared, so the relations keep weights
  even_after : (T : Presentation) (u v : Positive) → Compares table first second T u v → (k r bytes : ℕ)
      → answered (listed_after k r bytes) ≡ chain table first second budget room (length before) → Homogeneous (weight_of T) (complete T)
  even_after T u v c k r bytes e =
      clear_homogeneous T budget room
      (answered_clear T u v budget room (same_told table first second budget room (length before) T u v c k r bytes e))

  joins_checked : (T : Presentation) (u v : Positive) → Compares table first second T u v → (k r bytes : ℕ)
      → answered (listed_after k r bytes) ≡ chain table first second budget room (length before) → Listed T u v r bytes before after
      → JoinsChecked table first second bytes before after
  joins_checked T u v c k r bytes e l =
      record {
        image = chain_image T.size l.entries;
        long = l.long;
        written = l.written;
        joined = λ T' u' v' c' room h.
            check_runs table first second (chain_image T.size l.entries) room T u v c T.size refl l.entries l.readable
            ∙ lead_joins T (even_after T u v c k r bytes e) room u l.entries v l.leads (omega (arith, h, same_weight T' u' v' c'));
      }
    where
      same_weight : (T' : Presentation) (u' v' : Positive) → Compares table first second T' u' v' → weigh T u ≡ weigh T' u'
      same_weight T' u' v' c' =
          let one = c.table_read in
          let two = c'.table_read in
          let tables : T ≡ T' = cc in
          let read : read_forward T.size first ≡ answered u' = rw tables c'.first_read in
          let first_one = c.first_read in
          let words : u ≡ u' = cc in
          ap₂ weigh tables words

  listed_checks : (o : Outcome ChainAnswer) → o ≡ chain table first second budget room (length before) → ChainArea table first second before after o
      → ListedChecks table first second before after o
  listed_checks (answered (listed_after k r bytes)) e (T, u, v, c, l) = joins_checked T u v c k r bytes e l
  listed_checks (answered (unlisted_after k)) e a = tt
  listed_checks (refused n ps) e a = tt

-- THE PROMISE

module _ (table first second : List ℕ) (budget : ℕ) (area before : List ℕ) where
  pub promised_refused : (r : Refusal) → read_images read_forward table first second ≡ refusal r
      → ChainPromise table first second budget area area before before (refusal r)
  promised_refused r e =
      let o = chain_refused table first second budget (length area) (length before) r e in
      record {
        stated = o.stated;
        workspace_is = o.workspace area;
        area = refl;
        checks = listed_checks table first second budget (length area) before before _ o.stated refl;
        meaning = chain_means table first second budget (length area) (length before) _ o.stated;
      }

  module _ (T : Presentation) (u v : Positive) (c : Compares table first second T u v) (size : ℕ) (sized : T.size ≡ size) where
    pub promised_listed : (r : Result Compared Refusal) (area' after : List ℕ) → area' ≡ workspace_after (compared r) area
        → ListedAs T u v budget (length area) before after r → (told : Outcome ChainAnswer) → told ≡ mapped (chain_answer size) (compared r)
        → ChainPromise table first second budget area area' before after told
    promised_listed r area' after w l told q =
        let told_is = q ∙ ap (λ n. mapped (chain_answer n) (compared r)) (sym sized) in
        let e = told_is ∙ (ap (mapped (chain_answer T.size)) l.verdict ∙ sym (chain_runs table first second budget (length area) (length before) T u v c)) in
        let listed = subst (ChainArea table first second before after) (sym told_is)
        (area_listed table first second before after T u v c (compared r) l.area) in
        record {
          stated = e;
          workspace_is = w ∙ (sym (answer_workspace T.size (compared r) area) ∙ ap (λ x. workspace_after x area) (sym told_is ∙ e));
          area = listed;
          checks = listed_checks table first second budget (length area) before after told e listed;
          meaning = chain_means table first second budget (length area) (length before) _ e;
        }
