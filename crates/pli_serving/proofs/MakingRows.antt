-- Service 7, computed.
use Rattle.std.proofs.Common.{◌≡◌, ◌-◌, ◌^◌, ℕ, List, [], ◌∷◌, ◌++◌, Some, refl, replicate}
use lib.Chars.{codes}
use Rattle.rv_meaning.specs.Memory.{bytes_of_words}
use Rattle.pli_meaning.specs.declared.outcome.End.TheVariants as E
use Rattle.pli_meaning.specs.declared.outcome.Limit.TheVariants as L
use Rattle.pli_meaning.specs.BasicValues.{VariableName}
use Rattle.pli_serving.specs.Bytes.{with_bytes, name_bytes}
use Rattle.pli_serving.specs.ServiceState.{Living}
use Rattle.pli_serving.specs.Answers.{Answer, Bad}
use Rattle.pli_serving.specs.Finding.{Call}
use Rattle.pli_serving.specs.Making.{make_served}
use Rattle.pli_serving.specs.SignatureService.{signature_served}
use Rattle.pli_serving.proofs.CallPieces.{call, memory, start, in_main, last_act, registers, after, bytes_after, area_after, world_at_end, then'}

abbrev living : (serial owner signature at : ℕ) → Living
living serial owner signature at = record { serial = serial; owner = owner; signature = signature; at = at }

-- a name at 48, data at 128, in memory that isn't all zeros
abbrev used : List ℕ
used = with_bytes (replicate 64 9) 128 memory

abbrev made : (signature class : ℕ) → Answer
made signature class = make_served (call in_main used) 48 signature 0 128 class

-- ---- what is made

number_is_made : after (λ v. v.living) (made 0 0) ≡ Some (living 1 1 0 128 ∷ [])
number_is_made = refl

serial_is_given : after (λ v. v.serials) (made 0 0) ≡ Some 1
serial_is_given = refl

name_is_written : bytes_after 16 48 (made 0 0) ≡ Some (name_bytes (VariableName 1))
name_is_written = refl

make_keeps_registers : registers (made 0 0) ≡ Some (48, 0)
make_keeps_registers = refl

make_is_no_act : after (λ v. v.world.acts) (made 0 0) ≡ Some 0
make_is_no_act = refl

defaults_are_written : bytes_after 16 128 (made 1 0) ≡ Some (replicate 8 0 ++ (codes "   " ++ 0 ∷ replicate 4 9))
defaults_are_written = refl

second_serial_is_given :
    after (λ v. v.living) (then' (made 0 0) (λ c. make_served c 64 1 0 144 2)) ≡ Some (living 2 1 1 144 ∷ living 1 1 0 128 ∷ [])
second_serial_is_given = refl

static_has_no_owner : after (λ v. v.living) (made 0 1) ≡ Some (living 1 0 0 128 ∷ [])
static_has_no_owner = refl

static_needs_no_block : after (λ v. v.living) (make_served (call start used) 48 0 0 128 1) ≡ Some (living 1 0 0 128 ∷ [])
static_needs_no_block = refl

area_is_made_empty : area_after 48 128 (made 3 0) ≡ Some (record { capacity = 32; placed = [] })
area_is_made_empty = refl

-- ---- INITIAL: at 200 the second element of leaf 0 is -5, and leaf 1 is 'AB'

abbrev minus : ℕ → ℕ
minus n = 2 ^ 32 - n

abbrev with_list : List ℕ → List ℕ
with_list words = with_bytes (bytes_of_words words) 200 memory

-- one leaf with one value
abbrev one_value : (leaf what number : ℕ) → List ℕ
one_value leaf what number = with_list (1 ∷ leaf ∷ 12 ∷ 1 ∷ 1 ∷ what ∷ number ∷ [])

abbrev begun_with : (signature : ℕ) → List ℕ → Answer
begun_with signature m = make_served (call in_main m) 48 signature 200 128 0

abbrev two_leaves : List ℕ
two_leaves = with_list (2 ∷ 0 ∷ 20 ∷ 1 ∷ 48 ∷ 2 ∷ 1 ∷ 0 ∷ 0 ∷ 2 ∷ 1 ∷ minus 5 ∷ 1 ∷ 1 ∷ 2 ∷ 2 ∷ 0x4241 ∷ [])

initial_values_are_written :
    bytes_after 12 128 (begun_with 1 two_leaves) ≡ Some (0 ∷ 0 ∷ 0 ∷ 0 ∷ 251 ∷ 255 ∷ 255 ∷ 255 ∷ (codes "AB " ++ 0 ∷ []))
initial_values_are_written = refl

leaf_without_initial_has_defaults :
    bytes_after 12 128 (begun_with 1 (one_value 0 1 7)) ≡ Some (7 ∷ 0 ∷ 0 ∷ 0 ∷ 0 ∷ 0 ∷ 0 ∷ 0 ∷ (codes "   " ++ 0 ∷ []))
leaf_without_initial_has_defaults = refl

list_has_no_such_leaf : begun_with 0 (one_value 1 1 7) ≡ Bad
list_has_no_such_leaf = refl

number_is_too_great : begun_with 0 (one_value 0 1 (2 ^ 15)) ≡ Bad
number_is_too_great = refl

number_has_no_text : begun_with 0 (one_value 0 2 0) ≡ Bad
number_has_no_text = refl

text_has_no_number : begun_with 1 (one_value 1 1 0) ≡ Bad
text_has_no_number = refl

number_has_no_null : begun_with 0 (one_value 0 3 0) ≡ Bad
number_has_no_null = refl

value_is_none_of_these : begun_with 0 (one_value 0 4 0) ≡ Bad
value_is_none_of_these = refl

text_passes_the_end : begun_with 1 (one_value 1 2 400) ≡ Bad
text_passes_the_end = refl

list_is_in_the_code : make_served (call in_main two_leaves) 48 1 12 128 0 ≡ Bad
list_is_in_the_code = refl

list_passes_the_end : make_served (call in_main (with_bytes (1 ∷ []) 508 memory)) 48 1 508 128 0 ≡ Bad
list_passes_the_end = refl

values_are_outside : begun_with 0 (with_list (1 ∷ 0 ∷ 400 ∷ [])) ≡ Bad
values_are_outside = refl

values_pass_the_end :
    make_served (call in_main (with_bytes (bytes_of_words (1 ∷ 0 ∷ 12 ∷ 1 ∷ [])) 496 memory)) 48 0 496 128 0
    ≡ Bad
values_pass_the_end = refl

-- ---- the limit

limit_ends_the_run : world_at_end (made 6 0) ≡ Some (record { acts = 1; output = []; raised = []; end = E.Limit L.Automatic })
limit_ends_the_run = refl

limit_ends_with_a_copy : world_at_end (made 6 2) ≡ Some (record { acts = 1; output = []; raised = []; end = E.Limit L.Automatic })
limit_ends_with_a_copy = refl

-- what lives counts, but not what is STATIC
abbrev beside : (owner : ℕ) → Answer
beside owner = make_served (call (record in_main { living = living 1 owner 6 128 ∷ [] }) memory) 48 0 0 128 0

living_counts : world_at_end (beside 1) ≡ Some (record { acts = 1; output = []; raised = []; end = E.Limit L.Automatic })
living_counts = refl

static_counts_nothing : registers (beside 0) ≡ Some (48, 0)
static_counts_nothing = refl

-- AREA(1048560) and its header are just the limit, and have no place
abbrev just_at_limit : Call → Answer
just_at_limit c = make_served c 48 10 0 128 0

limit_may_be_reached :
    then' (signature_served (call in_main (with_list (1 ∷ 0 ∷ 255 ∷ []))) 9 200 0 (2 ^ 20 - 16)) just_at_limit ≡ Bad
limit_may_be_reached = refl

limit_is_an_act : make_served (call (last_act in_main) used) 48 6 0 128 0 ≡ Bad
limit_is_an_act = refl

limit_comes_before_places :
    world_at_end (make_served (call in_main used) 0 6 0 0 0)
    ≡ Some (record { acts = 1; output = []; raised = []; end = E.Limit L.Automatic })
limit_comes_before_places = refl

-- ---- what is bad

make_has_three_classes : made 0 3 ≡ Bad
make_has_three_classes = refl

automatic_needs_a_block : make_served (call start used) 48 0 0 128 0 ≡ Bad
automatic_needs_a_block = refl

no_such_signature : made 10 0 ≡ Bad
no_such_signature = refl

signature_is_open : made 2 0 ≡ Bad
signature_is_open = refl

data_is_in_the_code : make_served (call in_main used) 48 0 0 12 0 ≡ Bad
data_is_in_the_code = refl

data_passes_the_end : make_served (call in_main used) 48 1 0 504 0 ≡ Bad
data_passes_the_end = refl

area_passes_the_end : make_served (call in_main used) 48 3 0 472 0 ≡ Bad
area_passes_the_end = refl

name_is_in_the_code : make_served (call in_main used) 0 0 0 128 0 ≡ Bad
name_is_in_the_code = refl

last_serial_is_none : make_served (call (record in_main { serials = 2 ^ 64 - 1 }) used) 48 0 0 128 0 ≡ Bad
last_serial_is_none = refl
