-- The word is listed already, is one too many, has no room, or is added.
use Rattle.std.proofs.Common.{◌≡◌, ◌∙◌, List, ℕ, Bool, arith, sym, ap, take, drop}
use Rattle.model.specs.Word.{Positive}
use Rattle.model.specs.Signed.{is_listed}
use Rattle.sets.specs.Listed.{Lists, ListedMeans}
use Rattle.sets.proofs.Lookup.{front_lists}
use Rattle.sets.proofs.Adding.{listed_stays, too_large, long_stops, word_added}
use Rattle.sets.proofs.growing.add_word.Goals as goal

-- whether the word behind the listing is listed
told : (count : ℕ) {n : ℕ} {area : List ℕ} {used : ℕ} {vs : List Positive} {w : Positive} {listing behind : List ℕ} {r v : Bool}
    → Lists n area used vs → take count (drop used area) ≡ w → listing ≡ take used area → behind ≡ drop used area
    → ListedMeans listing (take count behind) r → r ≡ v → is_listed w vs ≡ v
told count {n} {area} {used} {vs} {w} l b front back m h =
    ap (λ x. is_listed x vs) (sym b ∙ ap (take count) (sym back)) ∙ (sym (m n vs (front_lists l front)) ∙ h)

pub returns-then-is_listed-clause-added : goal.returns-then-is_listed-clause-added
returns-then-is_listed-clause-added c n vs g w b l =
    let s = c.split_at.ensures in
    listed_stays n c.args.area.now c.args.held vs g c.args.count c.requires.1 w b
    (told c.args.count g.lists b s.front s.back c.is_listed.ensures c.if-is_listed.true)

pub returns-then-held-ge-MOST_WORDS-clause-added : goal.returns-then-held-ge-MOST_WORDS-clause-added
returns-then-held-ge-MOST_WORDS-clause-added c n vs g w b l after stops =
    let s = c.split_at.ensures in
    too_large n c.args.area.now c.args.held vs g c.args.count c.requires.1 w b
    (told c.args.count g.lists b s.front s.back c.is_listed.ensures c.if-is_listed.false)
    c.if-held-ge-MOST_WORDS.true after

pub returns-then-end-area-clause-added : goal.returns-then-end-area-clause-added
returns-then-end-area-clause-added c n vs g w b l after stops =
    let s = c.split_at.ensures in
    long_stops n c.args.area.now c.args.held vs g c.args.count c.requires.1 w b
    (told c.args.count g.lists b s.front s.back c.is_listed.ensures c.if-is_listed.false)
    c.if-held-ge-MOST_WORDS.false c.if-end-area.true after stops

pub returns-clause-added : goal.returns-clause-added
returns-clause-added c n vs g w b l =
    let s = c.split_at.ensures in
    word_added n c.args.area.now c.args.held vs g c.args.count c.requires.1 w b
    (told c.args.count g.lists b s.front s.back c.is_listed.ensures c.if-is_listed.false)
    c.if-held-ge-MOST_WORDS.false l (omega arith)

pub is_listed-requires : goal.is_listed-requires
is_listed-requires c = let g = c.requires.0 in (g.0, g.1, front_lists g.2.lists c.split_at.ensures.front)
