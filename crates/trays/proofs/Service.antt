-- The outcome of tray after each check, and what the bytes of a log mean.
use mathlib.Core.Path.{◌≡◌, refl, sym, ap, subst, ◌∙◌}
use mathlib.Core.Logic.{⊎_elim}
use mathlib.Core.List.{List, [], ◌∷◌, ◌++◌, map, append_assoc}
use Prim.Native.Nat.{ℕ, ◌+◌, ◌*◌, ◌/◌, ◌%◌, ◌≤◌, ◌<◌}
use native.Mathlib.Omega.{arith}
use borrow.Author.Tests.{lt-ltb, le-ltb}
use lib.Dec.{ltb}
use lib.ListN.{length, take, drop, get_or, replicate, length-map}
use lib.Seq.{take_at, drop_at}
use Rattle.model.specs.Word.{Positive}
use Rattle.model.specs.Presentation.{Presentation}
use Rattle.model.specs.Equivalence.{Joined}
use Rattle.model.specs.Outcome.{unplaced, Outcome, answered, refused, ◌>>=◌, unless, mapped}
use Rattle.model.specs.Images.{read_table}
use Rattle.model.specs.Checks.{cleared}
use Rattle.model.specs.Services.{TableWith, read_table_with, Images, Verdict, same_after, different_after, read_forward, forward_verdict, comparison, compare}
use Rattle.model.specs.Areas.{written, begins, output_after, workspace_after}
use Rattle.model.specs.Tray.{read_tray, log_bytes, tray_bytes, tray}
use Rattle.model.specs.Stated.{refusal, tray_compared}
use Rattle.model.specs.declared.answers.Refusal.{Refusal}
use Rattle.model.specs.declared.answers.Refusal.TheVariants.{AnswerShort, TooManyLogs, NotTray}
use Rattle.std.specs.Prelude.{◌⊎◌, Ok, Err}
use Rattle.std.specs.declared.result.Result.{Result}
use Rattle.model.proofs.Impossible.{impossible, answer_of, same_answer, not_refused}
use Rattle.model.proofs.Outcomes.{still_refused, goes_on}
use Rattle.theory.specs.Verdicts.{Settled, settled, by_allowance, by_memory, VerdictMeaning}
use Rattle.theory.proofs.Verdicts.{verdict_meaning}
use Rattle.loading.proofs.Early.{Early}
use Rattle.loading.proofs.Outcomes.{refused_stated, refused_output, refused_workspace}
use Rattle.loading.proofs.Reading.{program_still_refused, program_runs}
use Rattle.trays.specs.Tray.{log_verdict, tray_verdicts, States}
use Rattle.trays.specs.Meaning.{Told, told_same, told_different, by_allowance as stopped-by-allowance, by_memory as stopped-by-memory, LogSays, LogMeans}
use Rattle.trays.specs.Meaning.{TraySays, TrayPromise}
use Rattle.trays.proofs.Answering.{log_bytes_long, answers_long, answers_append}

-- the area begins with what is written at its start
at_start : (area bytes : List ℕ) → written area 0 bytes ≡ begins bytes area
at_start area bytes = ap (λ k. bytes ++ drop k area) {x = 0 + length bytes} {y = length bytes} (omega arith)

-- A TRAY UNDER A LOADED TABLE

module _ (n : ℕ) (T : Presentation) (v : Positive) (images : List (List ℕ)) (budget : ℕ) (workspace before : List ℕ) where
  abbrev outcome : Outcome (List (Outcome Verdict))
  outcome = tray_verdicts n T v images budget (length workspace) (length before)

  abbrev verdicts : List (Outcome Verdict)
  verdicts = map (log_verdict n T v budget (length workspace)) images

  module _ (clear : answered tt ≡ cleared T budget (length workspace)) (after : List ℕ) (w : after ≡ replicate (length workspace) 0) where
    goes : outcome ≡ unless (ltb (length before) (3 * length images)) 13 verdicts
    goes = goes_on (cleared T budget (length workspace)) tt (sym clear) _

    pub area_short : length before < 3 * length images → States outcome workspace after before before (Err AnswerShort)
    area_short h =
        subst (λ o. States o workspace after before before (Err AnswerShort))
        (sym (goes ∙ ap (λ t. unless t 13 verdicts) (lt-ltb (length before) (3 * length images) h)))
        (record { result = refl; answer = refl; workspace = w })

    pub logs_answered : 3 * length images ≤ length before → (logs : ℕ) → length images ≡ logs → (area : List ℕ) → area ≡ written before 0 (tray_bytes verdicts)
        → States outcome workspace after before area (Ok logs)
    logs_answered h logs many area a =
        subst (λ o. States o workspace after before area (Ok logs))
        (sym (goes ∙ ap (λ t. unless t 13 verdicts) (le-ltb (length before) (3 * length images) h)))
        (record {
          result = ap answered (sym (length-map images (log_verdict n T v budget (length workspace)) ∙ many));
          answer = a ∙ at_start before (tray_bytes verdicts);
          workspace = w;
        })

-- THE SERVICE

map_same : {A B : Type 0} (f g : A → B) → ((x : A) → f x ≡ g x) → (xs : List A) → map f xs ≡ map g xs
map_same f g e [] = refl
map_same f g e (x ∷ xs) = ap (λ y. y ∷ map f xs) (e x) ∙ ap (λ l. g x ∷ l) (map_same f g e xs)

module _ (table logs pattern : List ℕ) (budget room area : ℕ) where
  no_tray : (r : Refusal) → read_tray logs ≡ refusal r → tray table logs pattern budget room area ≡ refusal r
  unfolding tray
  no_tray r e = still_refused (read_tray logs) r e _

  module _ (images : List (List ℕ)) (tray_read : read_tray logs ≡ answered images) where
    -- what is left to do once the table and the pattern are read
    abbrev clears : Presentation → Positive → Outcome (List (Outcome Verdict))
    clears T v = cleared T budget room >>= λ ok. unless (ltb area (3 * length images)) 13 (map (λ image. compare table image pattern budget room) images)

    pub unread : (r : Refusal) → read_table_with read_forward table pattern ≡ refusal r → tray table logs pattern budget room area ≡ refusal r
    unfolding tray
    unread r e = goes_on (read_tray logs) images tray_read _ ∙ program_still_refused read_forward table pattern clears r e

    module _ (T : Presentation) (table_read : read_table table ≡ answered T) (v : Positive) (pattern_read : read_forward T.size pattern ≡ answered v) where
      -- a log is compared as by itself
      as_compared : cleared T budget room ≡ answered tt → (image : List ℕ) → compare table image pattern budget room ≡ log_verdict
          T.size T v budget room image
      unfolding compare comparison
      as_compared clear image =
          ap (λ o. (o >>= then_pattern) >>= judges) (goes_on (read_table table) T table_read _) ∙ by_log (read_forward T.size image)
        where
          then_pattern : TableWith Positive → Outcome (Images Positive)
          then_pattern l = read_forward l.table.size pattern >>= λ w. answered (record { table = l.table; first = l.word; second = w })

          judges : Images Positive → Outcome Verdict
          judges i = comparison i.table i.first i.second budget room

          by_log : (o : Outcome Positive)
              → ((o >>= λ u. answered (record { table = T; word = u })) >>= then_pattern >>= judges) ≡ (o >>= λ u. forward_verdict T u v budget room)
          by_log (answered u) =
              goes_on (then_pattern (record { table = T; word = u })) _ (goes_on (read_forward T.size pattern) v pattern_read _) judges
              ∙ goes_on (cleared T budget room) tt clear _
          by_log (refused n place) = refl

      pub tray_runs : tray table logs pattern budget room area ≡ tray_verdicts T.size T v images budget room area
      unfolding tray
      tray_runs =
          goes_on (read_tray logs) images tray_read _
          ∙ (program_runs read_forward table pattern clears T v table_read pattern_read ∙ by_clear (cleared T budget room) refl)
        where
          by_clear : (o : Outcome (Unit {0})) → cleared T budget room ≡ o
              → (o >>= λ ok. unless (ltb area (3 * length images)) 13 (map (λ image. compare table image pattern budget room) images))
              ≡ (o >>= λ ok. unless (ltb area (3 * length images)) 13 (map (log_verdict T.size T v budget room) images))
          by_clear (answered tt) e =
              ap (unless (ltb area (3 * length images)) 13)
              (map_same (λ image. compare table image pattern budget room) (log_verdict T.size T v budget room) (as_compared e) images)
          by_clear (refused n place) e = refl

      -- by the size that was loaded
      pub sized_runs : (size : ℕ) → T.size ≡ size → tray table logs pattern budget room area ≡ tray_verdicts size T v images budget room area
      sized_runs size e = tray_runs ∙ ap (λ n. tray_verdicts n T v images budget room area) e

-- what is told of a refusal, and how it leaves the areas
module _ (table logs pattern : List ℕ) (budget : ℕ) (workspace before : List ℕ) where
  abbrev whole : Outcome (List (Outcome Verdict))
  whole = tray table logs pattern budget (length workspace) (length before)

  pub tray_refused : (r : Refusal) → whole ≡ refusal r → {A : Type 0} (first : Outcome A) (k : ℕ) → first ≡ refusal r → Early k first → k ≤ 8
      → States whole workspace workspace before before (Err r)
  tray_refused r e first k f h few =
      record {
        result = refused_stated whole r e length;
        answer = refused_output whole r e tray_bytes before;
        workspace = refused_workspace whole r e first k f h few workspace;
      }

  logs_too_many : whole ≡ refused 23 unplaced → States whole workspace workspace before before (Err TooManyLogs)
  logs_too_many e = subst (λ o. States o workspace workspace before before (Err TooManyLogs)) (sym e)
      (record { result = refl; answer = refl; workspace = refl })

  tray_broken : whole ≡ refused 24 unplaced → States whole workspace workspace before before (Err NotTray)
  tray_broken e = subst (λ o. States o workspace workspace before before (Err NotTray)) (sym e) (record { result = refl; answer = refl; workspace = refl })

  -- the two ways in which a tray is none
  pub tray_not_read : (r : Refusal) → (read_tray logs ≡ refusal r) × ((r ≡ TooManyLogs) ⊎ (r ≡ NotTray))
      → States whole workspace workspace before before (Err r)
  tray_not_read r (e, only) =
      ⊎_elim (λ s. subst (λ q. States whole workspace workspace before before (Err q)) (sym s) (logs_too_many (ends TooManyLogs s)))
      (λ s. subst (λ q. States whole workspace workspace before before (Err q)) (sym s) (tray_broken (ends NotTray s))) only
    where
      ends : (q : Refusal) → r ≡ q → whole ≡ refusal q
      ends q s = no_tray table logs pattern budget (length workspace) (length before) q (e ∙ ap (λ x. refusal {A = List (List ℕ)} x) s)

-- WHAT THE BYTES OF A LOG MEAN

first_byte : {x y : ℕ} {l m : List ℕ} → x ∷ l ≡ y ∷ m → x ≡ y
first_byte e = ap (λ l. get_or l 0 0) e

told : (o : Outcome Verdict) → Settled answered o → Told (log_bytes o)
told o (settled (same_after k r)) = told_same (k / 256) (k % 256)
told o (settled (different_after k)) = told_different (k / 256) (k % 256)
told o by_allowance = stopped-by-allowance
told o by_memory = stopped-by-memory

module _ (T : Presentation) (u v : Positive) (budget room : ℕ) (o : Outcome Verdict) (d : VerdictMeaning T u v budget room answered o) where
  zero_joined : (q : Outcome Verdict) → o ≡ q → Settled answered q → (high low : ℕ) → log_bytes q ≡ 0 ∷ high ∷ low ∷ [] → Joined T u v
  zero_joined q e (settled (same_after k r)) high low b = d.same_joined k r e
  zero_joined q e (settled (different_after k)) high low b = let z = first_byte b in absurd (omega (arith, z))
  zero_joined q e by_allowance high low b = let z = first_byte b in absurd (omega (arith, z))
  zero_joined q e by_memory high low b = let z = first_byte b in absurd (omega (arith, z))

  one_apart : (q : Outcome Verdict) → o ≡ q → Settled answered q → (high low : ℕ) → log_bytes q ≡ 1 ∷ high ∷ low ∷ [] → Joined T u v → ⊥
  one_apart q e (settled (same_after k r)) high low b = let z = first_byte b in absurd (omega (arith, z))
  one_apart q e (settled (different_after k)) high low b = d.different_apart k e
  one_apart q e by_allowance high low b = let z = first_byte b in absurd (omega (arith, z))
  one_apart q e by_memory high low b = let z = first_byte b in absurd (omega (arith, z))

  log_says : cleared T budget room ≡ answered tt → LogSays T u v budget room (log_bytes o)
  log_says clear = record {
    same_joined = zero_joined o refl (d.verdict_or_stop clear);
    different_apart = one_apart o refl (d.verdict_or_stop clear);
    verdict_or_stop = told o (d.verdict_or_stop clear);
    ends_empty = d.ends_empty clear;
    answers_same = λ joined k run s r. ap log_bytes (d.answers_same clear joined k run s r);
  }

forward_compared : (T : Presentation) (u v : Positive) (budget room : ℕ) → cleared T budget room ≡ answered tt
    → forward_verdict T u v budget room ≡ comparison T u v budget room
unfolding comparison
forward_compared T u v budget room clear = sym (goes_on (cleared T budget room) tt clear _)

-- the bytes of one log among those of a tray
answer_of_log : {A : Type 0} (f : A → Outcome Verdict) (earlier later : List A) (log : A) (area : List ℕ)
    → take 3 (drop (3 * length earlier) (begins (tray_bytes (map f (earlier ++ (log ∷ later)))) area)) ≡ log_bytes (f log)
answer_of_log f earlier later log area =
    let E = tray_bytes (map f earlier) in
    let L = log_bytes (f log) in
    let R = tray_bytes (map f later) in
    let D = drop (length (tray_bytes (map f (earlier ++ (log ∷ later))))) area in
    ap (λ b. take 3 (drop (3 * length earlier) (b ++ D))) (answers_append f earlier (log ∷ later))
    ∙ (ap (λ b. take 3 (drop (3 * length earlier) b)) (append_assoc E (L ++ R) D)
    ∙ (ap (take 3) (drop_at E ((L ++ R) ++ D) (3 * length earlier) (answers_long f earlier))
    ∙ (ap (take 3) (append_assoc L R D) ∙ take_at L (R ++ D) 3 (log_bytes_long (f log)))))

-- a tray that is answered has a pattern that was read, and its verdicts
record AnswerShows (pattern : List ℕ) (budget room : ℕ) (images : List (List ℕ)) (T : Presentation) (vs : List (Outcome Verdict)) : Type 0 where
  word : Positive
  pattern_read : read_forward T.size pattern ≡ answered word
  clear : cleared T budget room ≡ answered tt
  verdicts_are : vs ≡ map (log_verdict T.size T word budget room) images

module _ (table logs pattern : List ℕ) (budget room area : ℕ) (vs : List (Outcome Verdict)) (e : tray table logs pattern budget room area ≡ answered vs)
    (images : List (List ℕ)) (tray_read : read_tray logs ≡ answered images) (T : Presentation) (table_read : read_table table ≡ answered T) where
  abbrev clears_all : TableWith Positive → Outcome (List (Outcome Verdict))
  clears_all l =
      cleared l.table budget room >>= λ ok. unless (ltb area (3 * length images)) 13 (map (λ image. compare table image pattern budget room) images)

  by_pattern : (o : Outcome Positive) → ((o >>= λ w. answered (record { table = T; word = w })) >>= clears_all) ≡ answered vs
      → (v : Positive) × (o ≡ answered v) × (clears_all (record { table = T; word = v }) ≡ answered vs)
  by_pattern (answered v) h = (v, refl, h)
  by_pattern (refused n place) h = impossible (cc)

  pattern_answered : (v : Positive) × (read_forward T.size pattern ≡ answered v) × (clears_all (record { table = T; word = v }) ≡ answered vs)
  unfolding tray
  pattern_answered =
      by_pattern (read_forward T.size pattern)
      (sym (goes_on (read_tray logs) images tray_read _ ∙ ap (λ o. o >>= clears_all) (goes_on (read_table table) T table_read _)) ∙ e)

  answer_shows : AnswerShows pattern budget room images T vs
  answer_shows =
      let v = pattern_answered.0 in
      let f = log_verdict T.size T v budget room in
      let h = answer_of (cleared T budget room) (λ ok. unless (ltb area (3 * length images)) 13 (map f images)) vs
      (sym (tray_runs table logs pattern budget room area images tray_read T table_read v pattern_answered.1) ∙ e) in
      record {
        word = v;
        pattern_read = pattern_answered.1;
        clear = h.1;
        verdicts_are = sym (not_refused (ltb area (3 * length images)) 13 (map f images) vs h.2).1;
      }

module _ (table logs pattern : List ℕ) (budget room : ℕ) (before : List ℕ) (vs : List (Outcome Verdict))
    (e : tray table logs pattern budget room (length before) ≡ answered vs)
    (after : List ℕ) (a : after ≡ begins (tray_bytes vs) before) (earlier later : List (List ℕ)) (log : List ℕ)
    (read : read_tray logs ≡ answered (earlier ++ (log ∷ later))) where
  abbrev bytes_here : List ℕ
  bytes_here = take 3 (drop (3 * length earlier) after)

  -- the bytes at the log's place are those of its own verdict
  told_here : (T : Presentation) (v : Positive) → vs ≡ map (log_verdict T.size T v budget room) (earlier ++ (log ∷ later))
      → bytes_here ≡ log_bytes (log_verdict T.size T v budget room log)
  told_here T v q =
      ap (λ l. take 3 (drop (3 * length earlier) l)) (a ∙ ap (λ l. begins (tray_bytes l) before) q)
      ∙ answer_of_log (log_verdict T.size T v budget room) earlier later log before

  log_means : LogMeans table log pattern budget room bytes_here
  log_means = record {
    refused_log = λ T table_read n place r.
        let p = answer_shows table logs pattern budget room (length before) vs e (earlier ++ (log ∷ later)) read T table_read in
        told_here T p.word p.verdicts_are ∙ ap (λ o. log_bytes (o >>= λ u. forward_verdict T u p.word budget room)) r;
    compared_log = λ T u v c.
        let p = answer_shows table logs pattern budget room (length before) vs e (earlier ++ (log ∷ later)) read T c.table_read in
        let same : p.word ≡ v = same_answer p.word v (sym p.pattern_read ∙ c.second_read) in
        let here : log_verdict T.size T p.word budget room log ≡ comparison T u v budget room =
        ap (λ w. log_verdict T.size T w budget room log) same ∙ goes_on (read_forward T.size log) u c.first_read _
        ∙ forward_compared T u v budget room p.clear in
        subst (LogSays T u v budget room) (sym (told_here T p.word p.verdicts_are ∙ ap log_bytes here))
        (log_says T u v budget room (comparison T u v budget room) (verdict_meaning T u v budget room) p.clear);
  }

pub tray_says : (table logs pattern : List ℕ) (budget room : ℕ) (before : List ℕ) (o : Outcome (List (Outcome Verdict)))
    → tray table logs pattern budget room (length before) ≡ o → (after : List ℕ)
    → after ≡ output_after tray_bytes o before → TraySays table logs pattern budget room (mapped length o) after
tray_says table logs pattern budget room before (refused n place) e after a = tt
tray_says table logs pattern budget room before (answered vs) e after a = log_means table logs pattern budget room before vs e after a

-- what the service promises
module _ (table logs pattern : List ℕ) (budget : ℕ) (workspace workspace_left before after : List ℕ) (r : Result ℕ Refusal) where
  abbrev result : Outcome (List (Outcome Verdict))
  result = tray table logs pattern budget (length workspace) (length before)

  pub promised : States result workspace workspace_left before after r
      → TrayPromise table logs pattern budget workspace workspace_left before after (tray_compared r)
  promised s = record {
    stated = s.result;
    answer_is = s.answer;
    workspace_is = s.workspace;
    meaning =
        subst (λ o. TraySays table logs pattern budget (length workspace) o after) (sym s.result)
        (tray_says table logs pattern budget (length workspace) before result refl after s.answer);
  }
