-- The answers of logs, one behind the other in the answer area.
use mathlib.Core.Path.{◌≡◌, refl, sym, ap, ap₂, subst, ◌∙◌}
use mathlib.Core.List.{List, [], ◌∷◌, ◌++◌, map, append_assoc, append-nil}
use Prim.Native.Nat.{ℕ, suc, ◌+◌, ◌-◌, ◌*◌, ◌≤◌, ◌<◌}
use native.Mathlib.Omega.{arith}
use lib.ListN.{length, take, drop, length-append, length-drop}
use lib.Seq.{length-take-le}
use Rattle.model.specs.Outcome.{Outcome, answered, refused, ◌>>=◌}
use Rattle.model.specs.Bits.{Read}
use Rattle.model.specs.Images.{several}
use Rattle.model.specs.Services.{Verdict, same_after, different_after}
use Rattle.model.specs.Areas.{written}
use Rattle.model.specs.Tray.{read_log, log_bytes, tray_bytes}
use Rattle.bits.proofs.Appending.{written_more}
use Rattle.model.proofs.Impossible.{answer_of, same_answer}
use Rattle.trays.specs.Logs.{image_at, end_at, LogsOf}
use Rattle.trays.specs.Tray.{Under, log_verdict}
use Rattle.trays.proofs.Reading.{log_read, log_inside}

pub log_bytes_long : (o : Outcome Verdict) → length (log_bytes o) ≡ 3
log_bytes_long (answered (same_after k r)) = refl
log_bytes_long (answered (different_after k)) = refl
log_bytes_long (refused n place) = refl

-- THE BYTES OF SEVERAL LOGS

module _ {A : Type 0} (f : A → Outcome Verdict) where
  pub answers_long : (xs : List A) → length (tray_bytes (map f xs)) ≡ 3 * length xs
  answers_long [] = refl
  answers_long (x ∷ xs) = length-append (log_bytes (f x)) (tray_bytes (map f xs)) ∙ omega (arith, log_bytes_long (f x), answers_long xs)

  pub answers_append : (xs ys : List A) → tray_bytes (map f (xs ++ ys)) ≡ tray_bytes (map f xs) ++ tray_bytes (map f ys)
  answers_append [] ys = refl
  answers_append (x ∷ xs) ys =
      ap (λ l. log_bytes (f x) ++ l) (answers_append xs ys) ∙ sym (append_assoc (log_bytes (f x)) (tray_bytes (map f xs)) (tray_bytes (map f ys)))

-- A TRAY UNDER WAY

-- the first logs are answered, and so many are left from a place of the tray on, whose answers come at a place of the area
pub record Answered (cells : List ℕ) (size : ℕ) (tray : List ℕ) (pattern : List ℕ) (budget room : ℕ) (images : List (List ℕ)) (before area : List ℕ)
    (at place left : ℕ) : Type 0 where
  pub done : List (List ℕ)
  pub todo : List (List ℕ)
  pub all : images ≡ done ++ todo
  pub rest : several read_log left (drop at tray) ≡ answered (record { value = todo; rest = [] })
  pub stands : place ≡ 3 * length done
  pub enough : place + 3 * left ≤ length before
  pub same_length : length area ≡ length before
  pub bytes : Under cells size pattern (λ T v. area ≡ written before 0 (tray_bytes (map (log_verdict size T v budget room) done)))

module _ (cells : List ℕ) (size : ℕ) (tray : List ℕ) (pattern : List ℕ) (budget room : ℕ) (before : List ℕ) where
  module _ (images : List (List ℕ)) (area : List ℕ) (at place left : ℕ) (p : Answered cells size tray pattern budget room images before area at place left)
    where
      module _ (some : 0 < left) where
        -- the log that stands here, and those behind it
        split :
            (r : Read (List ℕ)) × (read_log (drop at tray) ≡ answered r)
            × ((rs : Read (List (List ℕ))) × (several read_log (left - 1) r.rest ≡ answered rs)
            × (◌≡◌ {A = Outcome (Read (List (List ℕ)))} (answered (record { value = r.value ∷ rs.value; rest = rs.rest }))
            (answered (record { value = p.todo; rest = [] }))))
        split =
            let e : several read_log (suc (left - 1)) (drop at tray) ≡ answered (record { value = p.todo; rest = [] }) =
            ap (λ k. several read_log k (drop at tray)) {x = suc (left - 1)} {y = left} (omega arith) ∙ p.rest in
            let h = answer_of (read_log (drop at tray))
            (λ r. several read_log (left - 1) r.rest >>= λ rs. answered (record { value = r.value ∷ rs.value; rest = rs.rest })) _ e in
            let t = answer_of (several read_log (left - 1) h.0.rest) (λ rs. answered (record { value = h.0.value ∷ rs.value; rest = rs.rest })) _
            h.2 in
            (h.0, h.1, (t.0, t.1, t.2))

        pub next_inside : end_at tray at ≤ length tray
        next_inside = log_inside tray at split.0 split.1

        module _ (r : Read (List ℕ)) (here : read_log (drop at tray) ≡ answered r) (rs : Read (List (List ℕ)))
            (behind : several read_log (left - 1) r.rest ≡ answered rs)
            (both : ◌≡◌ {A = Outcome (Read (List (List ℕ)))} (answered (record { value = r.value ∷ rs.value; rest = rs.rest }))
            (answered (record { value = p.todo; rest = [] })))
            (after : List ℕ) (long : length after ≡ length area)
            (put : Under cells size pattern (λ T v. after ≡ written area place (log_bytes (log_verdict size T v budget room (image_at tray at))))) where
          this : r ≡ record { value = image_at tray at; rest = drop (end_at tray at) tray }
          this = same_answer r (record { value = image_at tray at; rest = drop (end_at tray at) tray })
              (sym here ∙ log_read tray at (log_inside tray at r here))

          todo_is : r.value ∷ rs.value ≡ p.todo
          todo_is = ap (λ r. r.value) (same_answer (record { value = r.value ∷ rs.value; rest = rs.rest }) (record { value = p.todo; rest = [] }) both)

          ends : rs.rest ≡ []
          ends = ap (λ r. r.rest) (same_answer (record { value = r.value ∷ rs.value; rest = rs.rest }) (record { value = p.todo; rest = [] }) both)

          one_more : Answered cells size tray pattern budget room images before after (end_at tray at) (place + 3) (left - 1)
          one_more = record {
            done = p.done ++ (image_at tray at ∷ []);
            todo = rs.value;
            all =
                p.all ∙ ap (λ l. p.done ++ l) (sym todo_is ∙ ap (λ r. r.value ∷ rs.value) this)
                ∙ sym (append_assoc p.done (image_at tray at ∷ []) rs.value);
            rest =
                ap (λ r. several read_log (left - 1) r.rest) (sym this) ∙ behind
                ∙ ap (λ l. answered (record { value = rs.value; rest = l })) ends;
            stands = omega (arith, p.stands, length-append p.done (image_at tray at ∷ []));
            enough = omega (arith, p.enough);
            same_length = long ∙ p.same_length;
            bytes = λ T o v e.
                let f = log_verdict size T v budget room in
                let behind_all : place ≡ 0 + length (tray_bytes (map f p.done)) = omega (arith, p.stands, answers_long f p.done) in
                put T o v e
                ∙ ap₂ (λ a k. written a k (log_bytes (f (image_at tray at)))) (p.bytes T o v e) behind_all
                ∙ written_more before 0 (tray_bytes (map f p.done)) (log_bytes (f (image_at tray at)))
                (omega (arith, p.enough, p.stands, answers_long f p.done))
                ∙ ap (written before 0)
                (ap (λ l. tray_bytes (map f p.done) ++ l) (sym (append-nil (log_bytes (f (image_at tray at)))))
                ∙ sym (answers_append f p.done (image_at tray at ∷ [])));
          }

        pub one_answered : (after : List ℕ) → length after ≡ length area
            → Under cells size pattern (λ T v. after ≡ written area place (log_bytes (log_verdict size T v budget room (image_at tray at))))
            → Answered cells size tray pattern budget room images before after (end_at tray at) (place + 3) (left - 1)
        one_answered after long put = one_more split.0 split.1 split.2.0 split.2.1 split.2.2 after long put

      pub all_answered : left ≡ 0 → Under cells size pattern (λ T v. area ≡ written before 0 (tray_bytes (map (log_verdict size T v budget room) images)))
      all_answered z T o v e =
          let nothing : [] ≡ p.todo =
          ap (λ r. r.value) (same_answer (record { value = []; rest = drop at tray }) (record { value = p.todo; rest = [] })
          (ap (λ k. several read_log k (drop at tray)) {x = 0} {y = left} (sym z) ∙ p.rest)) in
          p.bytes T o v e
          ∙ ap (λ l. written before 0 (tray_bytes (map (log_verdict size T v budget room) l)))
          (sym (p.all ∙ ap (λ l. p.done ++ l) (sym nothing) ∙ append-nil p.done))

-- by how many logs were answered
module _ (cells : List ℕ) (size : ℕ) (tray : List ℕ) (pattern : List ℕ) (budget room : ℕ) (before : List ℕ) (logs : ℕ) (l : LogsOf tray logs) where
  abbrev After : List ℕ → ℕ → ℕ → Type 0
  After area at n = Answered cells size tray pattern budget room l.images before area at (3 * n) (logs - n)

  module _ (area : List ℕ) (at n : ℕ) (p : After area at n) where
    pub answered_inside : n < logs → end_at tray at ≤ length tray
    answered_inside h = next_inside cells size tray pattern budget room before l.images area at (3 * n) (logs - n) p (omega arith)

    pub answered_next : n < logs → (after : List ℕ) (end : ℕ) → end ≡ end_at tray at → length after ≡ length area
        → Under cells size pattern (λ T v. after ≡ written area (3 * n) (log_bytes (log_verdict size T v budget room (image_at tray at))))
        → After after end (n + 1)
    answered_next h after end ends long put =
        subst (λ e. After after e (n + 1)) (sym ends)
        (subst (λ k. Answered cells size tray pattern budget room l.images before after (end_at tray at) k (logs - (n + 1)))
        {x = 3 * n + 3} {y = 3 * (n + 1)} (omega arith)
        (subst (λ k. Answered cells size tray pattern budget room l.images before after (end_at tray at) (3 * n + 3) k)
        {x = logs - n - 1} {y = logs - (n + 1)} (omega arith)
        (one_answered cells size tray pattern budget room before l.images area at (3 * n) (logs - n) p (omega arith) after long put)))

    pub answered_last : logs ≤ n → Under cells size pattern (λ T v. area ≡ written before 0 (tray_bytes (map (log_verdict size T v budget room) l.images)))
    answered_last h = all_answered cells size tray pattern budget room before l.images area at (3 * n) (logs - n) p (omega arith)
