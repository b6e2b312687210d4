-- Where data can be made, and what they are.
use Rattle.std.proofs.Common.{◌≡◌, ℕ, ◌+◌, ◌<◌, ◌≤◌, ◌^◌, ℤ, List, [], ◌++◌, length, take, drop, Option, Some, Result, Bool, true, false, refl, sym, ap, ap₂, subst, ◌∙◌, arith}
use Rattle.std.specs.Prelude.{◌&&◌, nat_le, nat_lt, unwrap_or}
use Rattle.std.proofs.lemmas.Bool.Decides.{nat_tests}
use Rattle.pli_typing.specs.Signatures.{capped, leaves_size}
use Rattle.pli_meaning.specs.Contents.{Generation, Shape, fresh}
use Rattle.pli_serving.specs.AreaServices.{with_member}
use Rattle.pli_serving.specs.Answers.{Answer, Bad}
use Rattle.pli_serving.specs.Arguments.{capacity_of}
use Rattle.pli_serving.specs.Bytes.{Layout, is_data, name_size, with_bytes}
use Rattle.pli_serving.specs.Finding.{Call}
use Rattle.pli_serving.specs.Making.{bytes_made}
use Rattle.pli_serving.specs.Outcomes.{bad_unless}
use Rattle.pli_serving.specs.Values.{generation_bytes}
use Rattle.pli_signatures.specs.Whole.{capacity_in}
use Rattle.pli_values.specs.Beginnings.{generation_of, leaves_of, lists_of, shape_of}
use Rattle.pli_values.specs.declared.begun.Begun.{Begun}
use Rattle.pli_allocation.proofs.Starts.{length_begun, written_leaves_within}
use Rattle.pli_answering.specs.declared.reply.Refusal.{Refusal}
use Rattle.pli_making.specs.Making.{IsFirst, Prepares, entered_with, fresh_of, made_with, placed_with, prepared_with}
use Rattle.pli_making.specs.declared.content.Fresh.{Fresh}
use Rattle.pli_making.specs.declared.wanted.Making.{Making}

-- ---- places

pub misplaced : (c : Call) (w : Making) (owner size : ℕ) (content : List ℕ) → false ≡ (is_data c.layout w.place size && is_data c.layout w.name name_size) → placed_with c w owner size content ≡ Bad
misplaced c w owner size content e =
    ap (λ t. bad_unless (nat_lt (c.services.serials + 1) (2 ^ 64) && t) (made_with c w owner content)) (sym e) ∙ by_test (nat_lt (c.services.serials + 1) (2 ^ 64))
  where
    by_test : (t : Bool) → bad_unless (t && false) (made_with c w owner content) ≡ Bad
    by_test true = refl
    by_test false = refl

pub well_placed : (c : Call) (w : Making) (owner size : ℕ) (content : List ℕ) → true ≡ (is_data c.layout w.place size && is_data c.layout w.name name_size) → placed_with c w owner size content ≡ entered_with c w owner content
well_placed c w owner size content e =
    ap (λ t. bad_unless (nat_lt (c.services.serials + 1) (2 ^ 64) && t) (made_with c w owner content)) (sym e) ∙ by_test (nat_lt (c.services.serials + 1) (2 ^ 64))
  where
    by_test : (t : Bool) → bad_unless (t && true) (made_with c w owner content) ≡ bad_unless t (made_with c w owner content)
    by_test true = refl
    by_test false = refl

pub area_misplaced : (c : Call) (w : Making) (owner : ℕ) (g : Generation) (capacity size : ℕ) → size ≡ c.keeper.bytes_for capacity → false ≡ (is_data c.layout w.place size && is_data c.layout w.name name_size) → prepared_with c w owner g (Some capacity) ≡ Bad
area_misplaced c w owner g capacity size e f =
    misplaced c w owner (c.keeper.bytes_for capacity) (bytes_made c w.place g (Some capacity)) (f ∙ ap (λ n. is_data c.layout w.place n && is_data c.layout w.name name_size) e)

pub area_placed : (c : Call) (w : Making) (owner : ℕ) (g : Generation) (capacity size : ℕ) → size ≡ c.keeper.bytes_for capacity → true ≡ (is_data c.layout w.place size && is_data c.layout w.name name_size) → prepared_with c w owner g (Some capacity) ≡ entered_with c w owner (bytes_made c w.place g (Some capacity))
area_placed c w owner g capacity size e f =
    well_placed c w owner (c.keeper.bytes_for capacity) (bytes_made c w.place g (Some capacity)) (f ∙ ap (λ n. is_data c.layout w.place n && is_data c.layout w.name name_size) e)

left_of : (a b : Bool) → true ≡ (a && b) → true ≡ a
left_of true b e = refl
left_of false b e = e

right_of : (a b : Bool) → true ≡ (a && b) → true ≡ b
right_of true b e = e
right_of false b e = cc

pub data_inside : (l : Layout) (at size : ℕ) → true ≡ is_data l at size → at + size ≤ l.end
data_inside l at size e =
    let low : true ≡ nat_le (at + size) l.end = right_of (nat_le l.code_bytes at) (nat_le (at + size) l.end) e in
    grind (arith, nat_tests)

pub place_inside : (l : Layout) (at size name : ℕ) → true ≡ (is_data l at size && is_data l name name_size) → at + size ≤ l.end
place_inside l at size name e = data_inside l at size (left_of (is_data l at size) (is_data l name name_size) e)

pub name_inside : (l : Layout) (at size name : ℕ) → true ≡ (is_data l at size && is_data l name name_size) → name + 16 ≤ l.end
name_inside l at size name e = data_inside l name 16 (right_of (is_data l at size) (is_data l name name_size) e)

-- a size that is capped lies where the size itself does
capped_end : (at size end : ℕ) → end < 2 ^ 32 → nat_le (at + capped size) end ≡ nat_le (at + size) end
capped_end at size end h = by_test (nat_le (at + size) end) refl
  where
    by_test : (t : Bool) → nat_le (at + size) end ≡ t → nat_le (at + capped size) end ≡ t
    by_test true t =
        let inside : at + size ≤ end = grind (arith, nat_tests) in
        let less : at + capped size ≤ end = omega (arith, inside) in
        grind (arith, nat_tests)
    by_test false t =
        let outside : end < at + size = grind (arith, nat_tests) in
        let more : end < at + capped size = omega (arith, outside, h) in
        grind (arith, nat_tests)

pub capped_places : (l : Layout) (at size name bytes : ℕ) (t : Bool) → l.end < 2 ^ 32 → bytes ≡ capped size → t ≡ (is_data l at bytes && is_data l name name_size) → t ≡ (is_data l at size && is_data l name name_size)
capped_places l at size name bytes t h e f =
    f
    ∙ ap (λ n. is_data l at n && is_data l name name_size) e
    ∙ ap (λ (b : Bool). (nat_le l.code_bytes at && b) && is_data l name name_size) (capped_end at size l.end h)

-- ---- data

pub first_generation : (b : Begun) → IsFirst b → generation_of b ≡ fresh_of b
first_generation b first =
    ap₂ (λ (z : ℤ) (m : Option ℕ). with_member z m (fresh (shape_of b) z (unwrap_or (lists_of b) []))) first.extent first.member

-- a size that is capped is the size itself where it lies in data
pub uncapped : (l : Layout) (at size bytes : ℕ) → l.end < 2 ^ 32 → bytes ≡ capped size → true ≡ is_data l at bytes → bytes ≡ size
uncapped l at size bytes h e d = let inside = data_inside l at bytes d in omega (arith, h, e, inside)

pub begun_short : (b : Begun) (bytes : List ℕ) (size : ℕ) → bytes ≡ generation_bytes (generation_of b) → size ≡ leaves_size (leaves_of b) → length bytes ≤ size
begun_short b bytes size e s =
    let count = ap length e ∙ length_begun b in
    let within = written_leaves_within (leaves_of b) in
    omega (arith, count, within, s)

-- ---- by the signature

pub known_capacity : (o : Option Shape) (s : Shape) (capacity : Option ℕ) → o ≡ Some s → capacity ≡ capacity_in o → capacity_of s ≡ capacity
known_capacity o s capacity e f = sym (f ∙ ap capacity_in e)

pub prepares_by : (a b : Answer) (c : Call) (w : Making) (owner : ℕ) (r : Result Fresh Refusal) → a ≡ b → Prepares b c w owner r → Prepares a c w owner r
prepares_by a b c w owner r e h = subst (λ (a : Answer). Prepares a c w owner r) (sym e) h

-- ---- areas

-- the part of memory that became others, as many
pub part_written : (m new : List ℕ) (at count : ℕ) → length new ≡ count → take at m ++ (new ++ drop (at + count) m) ≡ with_bytes new at m
part_written m new at count e = ap (λ n. take at m ++ (new ++ drop (at + n) m)) (sym e)
