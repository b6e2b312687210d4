-- Services 20 to 27: texts that wait in expressions, as entries of the stack. A service takes what it needs from the top of the
-- whole stack: what waits for another block is the code's duty to leave alone. A status other than 0 changes nothing.
use Rattle.std.specs.Prelude.{ℕ, ◌-◌, ℤ, pos, negsuc, ◌==◌, ◌&&◌, ◌||◌, Bool, true, nat_le, nat_lt, List, ◌∷◌, length, Option, Some, None, if◌then◌else◌}
use Rattle.std.specs.Option.{option_map}
use Rattle.std.specs.declared.cmp.Ordering.{Ordering}
use Rattle.std.specs.declared.cmp.Ordering.TheVariants.{Less, Equal, Greater}
use Rattle.rv_meaning.specs.Words.{signed, word, flag}
use Rattle.rv_meaning.specs.Memory.{load}
use Rattle.pli_typing.specs.Signatures.{LeafKind, Character, Varying, leaf_bytes}
use Rattle.pli_meaning.specs.Codes.{substring_code, conversion_code, too_long_code}
use Rattle.pli_meaning.specs.Texts.{most_text, number_text, bit_text, number_in_text, bit_in_text, text_order, joined, substring_from, substring, index_of, verify_of}
use Rattle.pli_meaning.specs.BasicValues.{BasicText}
use Rattle.pli_meaning.specs.Contents.{text_in}
use Rattle.pli_serving.specs.Bytes.{is_data, with_bytes}
use Rattle.pli_serving.specs.Values.{value_at}
use Rattle.pli_serving.specs.Stored.{kept_value, kept_bytes}
use Rattle.pli_serving.specs.ServiceState.{TextEntry}
use Rattle.pli_serving.specs.Answers.{Answer, Done}
use Rattle.pli_serving.specs.Finding.{Call}
use Rattle.pli_serving.specs.Outcomes.{or_bad, bad_unless, or_status, becoming, with_entries, pushed, on_text, on_two_texts}

-- ---- where texts stand in memory

-- mode 0 is CHARACTER, 1 VARYING; no text is longer than 1,024
abbrev pub text_kind : (mode most : ℕ) → Option LeafKind
text_kind mode most =
    if nat_le most most_text
    then (if mode == 0 then Some (Character most) else (if mode == 1 then Some (Varying most) else None))
    else None

-- a varying text isn't longer than its kind lets it be
abbrev pub is_text : LeafKind → (at : ℕ) → List ℕ → Bool
is_text (Varying most) at m = nat_le (load 2 m at) most
is_text kind at m = true

-- ---- 20: a text where it stands is pushed

abbrev pub text_pushed : Call → (at most : ℕ) → LeafKind → Answer
text_pushed c at most kind =
    bad_unless (is_data c.layout at (leaf_bytes kind) && is_text kind at c.memory)
    (becoming c (pushed (TextEntry (text_in (value_at kind at c.memory))) c.services) at most)

abbrev pub push_served : Call → (at most mode : ℕ) → Answer
push_served c at most mode = or_bad (text_kind mode most) (text_pushed c at most)

-- ---- 21: a number as a text, with the places of its precision; with 0 in its place a bit, which is set where the number is 1

abbrev pub number_or_bit_text : (number precision : ℕ) → List ℕ
number_or_bit_text number precision =
    if precision == 0 then bit_text (number == 1) else number_text precision (signed number)

abbrev pub push_number_served : Call → (number precision : ℕ) → Answer
push_number_served c number precision =
    becoming c (pushed (TextEntry (number_or_bit_text number precision)) c.services) number precision

-- ---- 22: the two top texts become one

abbrev pub join_served : Call → (x : ℕ) → Answer
join_served c x =
    on_two_texts c.services.entries
    (λ left right below.
    or_status c x too_long_code (joined left right)
    (λ whole. becoming c (with_entries (TextEntry whole ∷ below) c.services) x 0))

-- ---- 23: a part of the top text

-- mode 0 is SUBSTR to the end, 1 for j bytes
abbrev pub part_of : List ℕ → (i j mode : ℕ) → Option (List ℕ)
part_of t i j mode = if mode == 0 then substring_from t (signed i) else substring t (signed i) (signed j)

abbrev pub part_cut : Call → (i j mode : ℕ) → Answer
part_cut c i j mode =
    on_text c.services.entries
    (λ t below.
    or_status c i substring_code (part_of t i j mode) (λ part. becoming c (with_entries (TextEntry part ∷ below) c.services) i 0))

-- the top text becomes what an element of a kind keeps of it
abbrev pub kept_cut : Call → (i : ℕ) → LeafKind → Answer
kept_cut c i kind =
    on_text c.services.entries
    (λ t below.
    becoming c (with_entries (TextEntry (text_in (kept_value kind (BasicText t))) ∷ below) c.services) i 0)

-- modes 0 and 1 are SUBSTR; 2 makes i bytes of it as CHARACTER does, 3 at most i as VARYING does
abbrev pub cut_served : Call → (i j mode : ℕ) → Answer
cut_served c i j mode =
    if nat_lt mode 2 then part_cut c i j mode
    else or_bad (text_kind (mode - 2) i) (kept_cut c i)

-- ---- 24: -1, 0 or 1 as the left text is below, equal to or above the right one

abbrev pub order_number : Ordering → ℤ
order_number Less = negsuc 0
order_number Equal = pos 0
order_number Greater = pos 1

abbrev pub compare_served : Call → (y : ℕ) → Answer
compare_served c y =
    on_two_texts c.services.entries
    (λ left right below. becoming c (with_entries below c.services) (word (order_number (text_order left right))) y)

-- ---- 25: INDEX or VERIFY of the left text and the right one

abbrev pub place_in : (mode : ℕ) → (left right : List ℕ) → ℕ
place_in mode left right = if mode == 0 then index_of left right else verify_of left right

abbrev pub find_served : Call → (mode y : ℕ) → Answer
find_served c mode y =
    bad_unless (nat_lt mode 2)
    (on_two_texts c.services.entries
    (λ left right below. becoming c (with_entries below c.services) (place_in mode left right) y))

-- ---- 26: the top text as a number, or as a bit

abbrev pub word_in_text : (mode : ℕ) → List ℕ → Option ℕ
word_in_text mode t = if mode == 0 then option_map word (number_in_text t) else option_map flag (bit_in_text t)

abbrev pub to_number_served : Call → (mode : ℕ) → Answer
to_number_served c mode =
    bad_unless (nat_lt mode 2)
    (on_text c.services.entries
    (λ t below.
    or_status c mode conversion_code (word_in_text mode t) (λ w. becoming c (with_entries below c.services) w 0)))

-- ---- 27: the top text is stored, or measured

abbrev pub text_stored : Call → (at y : ℕ) → LeafKind → Answer
text_stored c at y kind =
    on_text c.services.entries
    (λ t below.
    bad_unless (is_data c.layout at (leaf_bytes kind))
    (Done (with_entries below c.services)
    (with_bytes (kept_bytes kind (BasicText t)) at c.memory)
    (length t) y))

-- with mode 2 the text stays, with 3 it is dropped
abbrev pub text_measured : Call → (mode y : ℕ) → Answer
text_measured c mode y =
    on_text c.services.entries
    (λ t below.
    becoming c (if mode == 2 then c.services else with_entries below c.services) (length t) y)

-- modes 0 and 1 store a CHARACTER or VARYING element of a length, 2 and 3 measure
abbrev pub store_served : Call → (at most mode : ℕ) → Answer
store_served c at most mode =
    if (mode == 2) || (mode == 3) then text_measured c mode most
    else or_bad (text_kind mode most) (text_stored c at most)
