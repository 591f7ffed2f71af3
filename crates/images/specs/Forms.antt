-- The forms of a table, and a table as it is read in one, field after field: refusal 1 where the input ends before a field does, 2 where a field says
-- no weight, length, letter or number of letters, then 3.
use Rattle.std.specs.Prelude.{List, ◌||◌, cond, ℕ, ◌+◌, ◌-◌, ◌≤◌, ltb, leb, eqb}
use Rattle.model.specs.Word.{Positive}
use Rattle.model.specs.Presentation.{Presentation, Complement, undefined, complement}
use Rattle.model.specs.Outcome.{Outcome, answered, ◌>>=◌, unless}
use Rattle.model.specs.Bits.{Read, bits_of, field, letter_width, finish}
use Rattle.model.specs.Images.{size_width, weight_width, length_width, several, rows_of, most_size, word_lengths}
use Rattle.model.specs.Plain.{open_byte, most_weight}
use Rattle.images.specs.declared.forms.Form.{Form}
use Rattle.images.specs.declared.forms.Kind.{Kind}
use Rattle.images.specs.declared.forms.Kind.TheVariants.{Image, Plain}

-- THE TWO FORMS

abbrev pub image_form : ℕ → Form
image_form size =
    record {
      sizes = size_width;
      weights = weight_width;
      opens = 1;
      heads = 1;
      lengths = length_width;
      letters = letter_width size;
      low = 0;
      mark = 0;
      head = 1;
    }

abbrev pub plain_form : Form
plain_form = record { sizes = 8; weights = 8; opens = 8; heads = 0; lengths = 8; letters = 8; low = 1; mark = open_byte; head = 0 }

abbrev pub form_of : Kind → ℕ → Form
form_of Image size = image_form size
form_of Plain size = plain_form

-- no field is wider than a byte
pub record Narrow (f : Form) : Type 0 where
  pub weights : f.weights ≤ 8
  pub opens : f.opens ≤ 8
  pub lengths : f.lengths ≤ 8
  pub letters : f.letters ≤ 8

-- READING

-- a field in which `low` says the first of `many` numbers; these are counted from 0
abbrev pub number_in : ℕ → ℕ → ℕ → List ℕ → Outcome (Read ℕ)
number_in width low many bits =
    field 1 width bits >>= λ r.
    unless (ltb r.value low || leb many (r.value - low)) 2 (record { value = r.value - low; rest = r.rest })

abbrev pub weight_in : Form → List ℕ → Outcome (Read ℕ)
weight_in f bits = number_in f.weights f.low most_weight bits

abbrev pub letter_in : Form → ℕ → List ℕ → Outcome (Read ℕ)
letter_in f size bits = number_in f.letters f.low size bits >>= λ r. answered (record { value = r.value + 1; rest = r.rest })

abbrev pub word_in : Form → ℕ → List ℕ → Outcome (Read Positive)
word_in f size bits = number_in f.lengths 0 word_lengths bits >>= λ k. several (letter_in f size) k.value k.rest

abbrev pub words_in : Form → ℕ → List ℕ → Outcome (Read Complement)
words_in f size bits =
    word_in f size bits >>= λ x.
    word_in f size x.rest >>= λ y.
    answered (record { value = complement x.value y.value; rest = y.rest })

-- where nothing stands before the words of a pair, what was read as its mark is the length of the first
abbrev pub pair_in : Form → ℕ → List ℕ → Outcome (Read Complement)
pair_in f size bits =
    field 1 f.opens bits >>= λ m.
    cond (eqb m.value f.mark) (answered (record { value = undefined; rest = m.rest })) (words_in f size (cond (eqb f.heads 0) bits m.rest))

-- all rows, and the end
unfoldable pub rows_in : Form → ℕ → List ℕ → List ℕ → Outcome Presentation
rows_in f size excess bits =
    rows_of (pair_in f size) size bits >>= λ rs.
    finish 3 (record { value = record { size = size; excess = excess; rows = rs.value }; rest = rs.rest })

unfoldable pub parts_in : Form → ℕ → List ℕ → Outcome Presentation
parts_in f size bits = several (weight_in f) size bits >>= λ ws. rows_in f size ws.value ws.rest

unfoldable pub table_in : Kind → List ℕ → Outcome Presentation
table_in kind input =
    number_in (form_of kind 1).sizes (form_of kind 1).low most_size (bits_of input) >>= λ n.
    parts_in (form_of kind (n.value + 1)) (n.value + 1) n.rest
