-- Specification 7.1, 7.3 and the answers of 6: numbers and values for each case of src/answers.rt. A promise says that what is stated of the
-- answer is the service's outcome.
use Rattle.std.specs.Prelude.{List, ℕ, length, Ok, Err}
use Rattle.std.specs.declared.result.Result.{Result}
use Rattle.model.specs.declared.answers.Place.{Place as PlaceAnswer}
use Rattle.model.specs.declared.answers.Place.TheVariants.{Triple, MirrorTriple, Set, Programs}
use Rattle.model.specs.declared.answers.Stop.{Stop as StopAnswer}
use Rattle.model.specs.declared.answers.Stop.TheVariants.{Budget, Room}
use Rattle.model.specs.declared.answers.Ending.{Ending as EndingAnswer}
use Rattle.model.specs.declared.answers.Ending.TheVariants.{Finished, Undefined, Stopped}
use Rattle.model.specs.declared.answers.Refusal.{Refusal}
use Rattle.model.specs.declared.answers.Refusal.TheVariants.{TableEnds, TableField, TableTail, ImageEnds, ImageField, ImageTail, BackMove}
use Rattle.model.specs.declared.answers.Refusal.TheVariants.{UnequalWeights, CubeFails, OpenPair, AllowanceUsed, WorkspaceShort, AnswerShort}
use Rattle.model.specs.declared.answers.Refusal.TheVariants.{NotBraidTable, NoMirror, MirrorFails, OtherNumbers, NotPattern, TooManyMoves, SetOpenPair}
use Rattle.model.specs.declared.answers.Refusal.TheVariants.{SetTooLarge, TooManyLogs, NotTray}
use Rattle.model.specs.declared.answers.Reversed.{Reversed}
use Rattle.model.specs.declared.answers.Compared.{Compared}
use Rattle.model.specs.declared.answers.Compared.TheVariants.{Same, Different}
use Rattle.model.specs.declared.answers.ComparedSigned.{ComparedSigned}
use Rattle.model.specs.declared.answers.ComparedSigned.TheVariants.{Same as SignedSame, Different as SignedDifferent}
use Rattle.model.specs.declared.answers.Chained.{Chained}
use Rattle.model.specs.declared.answers.Chained.TheVariants.{Listed, Unlisted}
use Rattle.model.specs.declared.answers.Checked.{Checked}
use Rattle.model.specs.declared.answers.Checked.TheVariants.{Joins, Breaks, EndsElsewhere}
use Rattle.model.specs.declared.answers.Remaining.{Remaining}
use Rattle.model.specs.declared.answers.Remaining.TheVariants.{Moves, Nothing}
use Rattle.model.specs.declared.answers.Ways.{Ways}
use Rattle.model.specs.Word.{Positive}
use Rattle.model.specs.Reversing.{Stop, no_budget, no_room, Ending, finished, open_pair, stopped}
use Rattle.model.specs.Outcome.{Place, unplaced, pair_of, triple_of, mirror_triple_of, the_set, Outcome, answered, refused}
use Rattle.model.specs.Ways.{listing_bytes}
use Rattle.model.specs.Signed.{SignedVerdict, same_after_both, different_after_both}
use Rattle.model.specs.Services.{Sizes, Verdict, same_after, different_after, ChainAnswer, listed_after, unlisted_after, Remainder, moves_after}
use Rattle.model.specs.Services.{none_after, Passage, joins, breaks, ends_elsewhere}

-- 7.3: the place of 11 and 12: the triple that was under way, of the table or of its mirror, or the set, or none if the programs were
abbrev pub placed : PlaceAnswer → Place
placed (Triple t) = triple_of t.a t.b t.c
placed (MirrorTriple t) = mirror_triple_of t.a t.b t.c
placed Set = the_set
placed Programs = unplaced

-- 7.1, 7.3: a refusal's number and place; of 10, `a` is the back letter's. 14 is no refusal's number
abbrev pub numbered : Refusal → ℕ × Place
numbered TableEnds = (1, unplaced)
numbered TableField = (2, unplaced)
numbered TableTail = (3, unplaced)
numbered ImageEnds = (4, unplaced)
numbered ImageField = (5, unplaced)
numbered ImageTail = (6, unplaced)
numbered BackMove = (7, unplaced)
numbered (UnequalWeights p) = (8, pair_of p.a p.b)
numbered (CubeFails t) = (9, triple_of t.a t.b t.c)
numbered (OpenPair p) = (10, pair_of p.a p.b)
numbered (AllowanceUsed p) = (11, placed p)
numbered (WorkspaceShort p) = (12, placed p)
numbered AnswerShort = (13, unplaced)
numbered NotBraidTable = (15, unplaced)
numbered (NoMirror p) = (16, pair_of p.a p.b)
numbered (MirrorFails t) = (17, mirror_triple_of t.a t.b t.c)
numbered OtherNumbers = (18, unplaced)
numbered NotPattern = (19, unplaced)
numbered TooManyMoves = (20, unplaced)
numbered (SetOpenPair p) = (21, pair_of p.a p.b)
numbered SetTooLarge = (22, unplaced)
numbered TooManyLogs = (23, unplaced)
numbered NotTray = (24, unplaced)

-- 7.1: the outcome, whatever the answer would have been
abbrev pub refusal : {A : Type 0} → Refusal → Outcome A
refusal r = refused (numbered r).0 (numbered r).1

-- 7.3: 11 and 12 of the programs
abbrev pub stop_refusal : StopAnswer → Refusal
stop_refusal Budget = AllowanceUsed Programs
stop_refusal Room = WorkspaceShort Programs

-- 7.1: the outcome of a service, whose answers are told so
abbrev pub stated : {A B : Type 0} → (A → B) → Result A Refusal → Outcome B
stated told (Ok x) = answered (told x)
stated told (Err r) = refusal r

-- 6.2, 6.15, 6.16: the answer of reverse, enquire and commit
abbrev pub sizes_stated : Reversed → Sizes
sizes_stated r = record { numerator = r.numerator; denominator = r.denominator; steps = r.steps }

abbrev pub reversed : Result Reversed Refusal → Outcome Sizes
reversed r = stated sizes_stated r

-- 6.3: clear
abbrev pub cleared_as : Result (Unit {0}) Refusal → Outcome (Unit {0})
cleared_as r = stated (λ _. tt) r

-- 6.4: compare
abbrev pub verdict_stated : Compared → Verdict
verdict_stated (Same k r) = same_after k r
verdict_stated (Different k) = different_after k

abbrev pub compared : Result Compared Refusal → Outcome Verdict
compared r = stated verdict_stated r

-- 6.18: compare_signed
abbrev pub signed_stated : ComparedSigned → SignedVerdict
signed_stated (SignedSame k j) = same_after_both k j
signed_stated (SignedDifferent k j) = different_after_both k j

abbrev pub compared_signed : Result ComparedSigned Refusal → Outcome SignedVerdict
compared_signed r = stated signed_stated r

-- 6.6: chain
abbrev pub chain_stated : Chained → ChainAnswer
chain_stated (Listed k e b) = listed_after k e b
chain_stated (Unlisted k) = unlisted_after k

abbrev pub chained : Result Chained Refusal → Outcome ChainAnswer
chained r = stated chain_stated r

-- 6.10: the answer of remainder: how many moves, and the steps
abbrev pub counted : Remainder Positive → Remainder ℕ
counted (moves_after m k) = moves_after (length m) k
counted (none_after k) = none_after k

abbrev pub remainder_stated : Remaining → Remainder ℕ
remainder_stated (Moves n k) = moves_after n k
remainder_stated (Nothing k) = none_after k

abbrev pub remaining : Result Remaining Refusal → Outcome (Remainder ℕ)
remaining r = stated remainder_stated r

-- 6.7: check
abbrev pub passage_stated : Checked → Passage
passage_stated Joins = joins
passage_stated (Breaks k) = breaks k
passage_stated EndsElsewhere = ends_elsewhere

abbrev pub checked : Result Checked Refusal → Outcome Passage
checked r = stated passage_stated r

-- 6.8, 6.11, 6.17: packing, unpacking, bed and import: the number of bytes written
abbrev pub packed_as : Result ℕ Refusal → Outcome ℕ
packed_as r = stated (λ k. k) r

-- 6.14: the answer of ways: the number of words, and of bytes
pub record Counts : Type 0 where
  pub words : ℕ
  pub bytes : ℕ

abbrev pub counts : List Positive → Counts
counts vs = record { words = length vs; bytes = length (listing_bytes vs) }

abbrev pub counts_stated : Ways → Counts
counts_stated w = record { words = w.words; bytes = w.bytes }

abbrev pub listed_as : Result Ways Refusal → Outcome Counts
listed_as r = stated counts_stated r

-- 6.19: the answer of tray: the number of logs
abbrev pub tray_compared : Result ℕ Refusal → Outcome ℕ
tray_compared r = stated (λ n. n) r

-- 3.2: how a reversing ends, by lengths: the answer that each ending of the model has
abbrev pub stop_answer : Stop → StopAnswer
stop_answer no_budget = Budget
stop_answer no_room = Room

abbrev pub ending_answer : Ending → EndingAnswer
ending_answer (finished n d k r) = Finished (length n) (length d) k r
ending_answer (open_pair a b k) = Undefined (record { a = a; b = b }) k
ending_answer (stopped s) = Stopped (stop_answer s)
