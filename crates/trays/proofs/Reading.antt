-- The logs of a tray, read from a place on.
use mathlib.Core.Path.{◌≡◌, refl, sym, ap, subst, ◌∙◌}
use mathlib.Core.List.{List, [], ◌∷◌, ◌++◌}
use mathlib.Core.Bool.{Bool, true, false, cond}
use Prim.Native.Nat.{ℕ, suc, ◌+◌, ◌-◌, ◌*◌, ◌≤◌, ◌<◌}
use native.Mathlib.Omega.{arith}
use borrow.Author.Tests.{ltb-true, ltb-false, eqb-true, eqb-false, lt-ltb, le-ltb}
use lib.Dec.{ltb, eqb}
use lib.ListN.{length, take, drop, get_or, length-drop}
use lib.Seq.{drop-cons, drop-drop, drop-length}
use Rattle.model.specs.Outcome.{unplaced, answered, refused, ◌>>=◌, unless}
use Rattle.model.specs.Bits.{Read}
use Rattle.model.specs.Images.{several}
use Rattle.model.specs.Tray.{most_logs, read_log, tray_end, read_tray}
use Rattle.model.proofs.Impossible.{impossible}
use Rattle.images.proofs.Several.{after, after_none, several_length, several_step, several_refused, several_done}
use Rattle.trays.specs.Logs.{length_at, image_at, end_at, LogsOf, LogsDecided, TrayOf}

-- ONE LOG

-- two bytes and what is behind them
log_of : (high low : ℕ) (bytes : List ℕ) → high * 256 + low ≤ length bytes
    → read_log (high ∷ low ∷ bytes) ≡ answered (record { value = take (high * 256 + low) bytes; rest = drop (high * 256 + low) bytes })
unfolding read_log
log_of high low bytes h =
    ap (λ t. unless t 24 (record { value = take (high * 256 + low) bytes; rest = drop (high * 256 + low) bytes })) (le-ltb (length bytes) (high * 256 + low) h)

cut_of : (high low : ℕ) (bytes : List ℕ) → length bytes < high * 256 + low → read_log (high ∷ low ∷ bytes) ≡ refused 24 unplaced
unfolding read_log
cut_of high low bytes h =
    ap (λ t. unless t 24 (record { value = take (high * 256 + low) bytes; rest = drop (high * 256 + low) bytes })) (lt-ltb (length bytes) (high * 256 + low) h)

short_of : (bytes : List ℕ) → length bytes < 2 → read_log bytes ≡ refused 24 unplaced
unfolding read_log
short_of [] h = refl
short_of (x ∷ []) h = refl
short_of (x ∷ y ∷ bytes) h = absurd (omega arith)

module _ (tray : List ℕ) (at : ℕ) where
  two_bytes : at + 2 ≤ length tray → drop at tray ≡ get_or tray at 0 ∷ get_or tray (at + 1) 0 ∷ drop (at + 2) tray
  two_bytes h =
      drop-cons tray at 0 (omega arith)
      ∙ ap (λ l. get_or tray at 0 ∷ l)
      (ap (λ k. drop k tray) {x = suc at} {y = at + 1} (omega arith)
      ∙ drop-cons tray (at + 1) 0 (omega arith)
      ∙ ap (λ k. get_or tray (at + 1) 0 ∷ drop k tray) {x = suc (at + 1)} {y = at + 2} (omega arith))

  pub log_read : end_at tray at ≤ length tray → read_log (drop at tray) ≡ answered (record { value = image_at tray at; rest = drop (end_at tray at) tray })
  log_read h =
      ap read_log (two_bytes (omega arith))
      ∙ log_of (get_or tray at 0) (get_or tray (at + 1) 0) (drop (at + 2) tray) (omega (arith, length-drop (at + 2) tray))
      ∙ ap (λ l. answered (record { value = image_at tray at; rest = l })) (drop-drop (length_at tray at) (at + 2) tray)

  pub log_short : at ≤ length tray → length tray - at < 2 → read_log (drop at tray) ≡ refused 24 unplaced
  log_short i h = short_of (drop at tray) (omega (arith, length-drop at tray))

  pub log_cut : at + 2 ≤ length tray → length tray - (at + 2) < length_at tray at → read_log (drop at tray) ≡ refused 24 unplaced
  log_cut i h = ap read_log (two_bytes i) ∙ cut_of (get_or tray at 0) (get_or tray (at + 1) 0) (drop (at + 2) tray) (omega (arith, length-drop (at + 2) tray))

  -- a log that was read lies inside the tray
  pub log_inside : (r : Read (List ℕ)) → read_log (drop at tray) ≡ answered r → end_at tray at ≤ length tray
  log_inside r e = by_end (ltb (length tray) (at + 2)) refl
    where
      by_length : at + 2 ≤ length tray → (b : Bool) → ltb (length tray) (end_at tray at) ≡ b → end_at tray at ≤ length tray
      by_length i true q = let f = log_cut i (let h = ltb-true (length tray) (end_at tray at) q in omega arith) in impossible (cc (e, f))
      by_length i false q = ltb-false (length tray) (end_at tray at) q

      by_end : (b : Bool) → ltb (length tray) (at + 2) ≡ b → end_at tray at ≤ length tray
      by_end true q =
          let h = ltb-true (length tray) (at + 2) q in
          let f = short_of (drop at tray) (omega (arith, length-drop at tray)) in impossible (cc (e, f))
      by_end false q = by_length (ltb-false (length tray) (at + 2) q) (ltb (length tray) (end_at tray at)) refl

-- SO MANY LOGS

-- some logs were passed, and so many are left from a place on
pub record Passed (tray : List ℕ) (logs at left : ℕ) : Type 0 where
  pub inside : at ≤ length tray
  pub done : List (List ℕ)
  pub so_far : several read_log logs (drop 1 tray) ≡ after done (several read_log left (drop at tray))

module _ (tray : List ℕ) (logs : ℕ) where
  pub none_passed : 1 ≤ length tray → Passed tray logs 1 logs
  none_passed h = record { inside = h; done = []; so_far = sym (after_none (several read_log logs (drop 1 tray))) }

  module _ (at left : ℕ) (p : Passed tray logs at left) where
    more : 0 < left → several read_log logs (drop 1 tray) ≡ after p.done (several read_log (suc (left - 1)) (drop at tray))
    more h = p.so_far ∙ ap (λ k. after p.done (several read_log k (drop at tray))) {x = left} {y = suc (left - 1)} (omega arith)

    pub one_passed : 0 < left → end_at tray at ≤ length tray → Passed tray logs (end_at tray at) (left - 1)
    one_passed h i =
        record {
          inside = i;
          done = p.done ++ (image_at tray at ∷ []);
          so_far = more h ∙ several_step read_log p.done (left - 1) (drop at tray) (record { value = image_at tray at; rest = drop (end_at tray at) tray })
              (log_read tray at i);
        }

    pub ends_early : 0 < left → read_log (drop at tray) ≡ refused 24 unplaced → LogsDecided tray logs false
    ends_early h e = ap (λ o. o >>= tray_end) (more h ∙ several_refused read_log p.done (left - 1) (drop at tray) 24 unplaced e)

    all_read : left ≡ 0 → several read_log logs (drop 1 tray) ≡ answered (record { value = p.done; rest = drop at tray })
    all_read z = p.so_far ∙ ap (λ k. after p.done (several read_log k (drop at tray))) z ∙ several_done read_log p.done (drop at tray)

    fills : left ≡ 0 → at ≡ length tray → LogsDecided tray logs true
    fills z e = record {
      images = p.done;
      filled = all_read z ∙ ap (λ l. answered (record { value = p.done; rest = l }))
          (ap (λ k. drop k tray) e ∙ drop-length tray);
    }

    goes_past : left ≡ 0 → (at ≡ length tray → ⊥) → LogsDecided tray logs false
    goes_past z n =
        ap (λ o. o >>= tray_end) (all_read z)
        ∙ ap (λ t. unless t 24 p.done) (lt-ltb 0 (length (drop at tray)) (omega (arith, length-drop at tray, p.inside, n)))

    pub decided : left ≡ 0 → LogsDecided tray logs (eqb at (length tray))
    decided z = by_end (eqb at (length tray)) refl
      where
        by_end : (b : Bool) → eqb at (length tray) ≡ b → LogsDecided tray logs b
        by_end true e = fills z (eqb-true at (length tray) e)
        by_end false e = goes_past z (eqb-false at (length tray) e)

-- by how many logs were passed
module _ (tray : List ℕ) (logs : ℕ) where
  pub passed_first : 1 ≤ length tray → Passed tray logs 1 (logs - 0)
  passed_first h = subst (Passed tray logs 1) {x = logs} {y = logs - 0} (omega arith) (none_passed tray logs h)

  pub passed_next : (at n : ℕ) → Passed tray logs at (logs - n) → n < logs → end_at tray at ≤ length tray → Passed tray logs (end_at tray at) (logs - (n + 1))
  passed_next at n p h i =
      subst (Passed tray logs (end_at tray at)) {x = logs - n - 1} {y = logs - (n + 1)} (omega arith) (one_passed tray logs at (logs - n) p (omega arith) i)

-- as many images as logs
pub many : (tray : List ℕ) (logs : ℕ) (l : LogsOf tray logs) → length l.images ≡ logs
many tray logs l = several_length read_log logs (drop 1 tray) (record { value = l.images; rest = [] }) l.filled

-- THE TRAY

-- by its first byte
behind : (logs : ℕ) (bytes : List ℕ) → logs ≤ most_logs → read_tray (logs ∷ bytes) ≡ (several read_log logs bytes >>= tray_end)
unfolding read_tray
behind logs bytes h =
    ap (λ t. cond t (refused 23 unplaced) (several read_log logs bytes >>= tray_end)) (le-ltb most_logs logs h)

too_many : (logs : ℕ) (bytes : List ℕ) → most_logs < logs → read_tray (logs ∷ bytes) ≡ refused 23 unplaced
unfolding read_tray
too_many logs bytes h =
    ap (λ t. cond t (refused 23 unplaced) (several read_log logs bytes >>= tray_end)) (lt-ltb most_logs logs h)

pub no_bytes : (tray : List ℕ) → length tray ≡ 0 → read_tray tray ≡ refused 24 unplaced
unfolding read_tray
no_bytes [] e = refl
no_bytes (x ∷ bytes) e = absurd (omega arith)

module _ (tray : List ℕ) (some : 1 ≤ length tray) where
  abbrev first : ℕ
  first = get_or tray 0 0

  headed : tray ≡ first ∷ drop 1 tray
  headed = drop-cons tray 0 0 some

  pub many_logs : most_logs < first → read_tray tray ≡ refused 23 unplaced
  many_logs h = ap read_tray headed ∙ too_many first (drop 1 tray) h

  module _ (few : first ≤ most_logs) where
    pub broken_tray : LogsDecided tray first false → read_tray tray ≡ refused 24 unplaced
    broken_tray e = ap read_tray headed ∙ behind first (drop 1 tray) few ∙ e

    pub whole_tray : LogsDecided tray first true → TrayOf tray first
    whole_tray l = record { all = l; read = ap read_tray headed ∙ behind first (drop 1 tray) few ∙ ap (λ o. o >>= tray_end) l.filled }
