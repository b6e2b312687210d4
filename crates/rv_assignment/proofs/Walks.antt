-- The code that stores by its pieces.
use Rattle.std.proofs.Common.{◌≡◌, ◌++◌, false, refl, sym, ap, append_assoc, append-nil, ◌<◌, ℕ, ℤ, zero, suc, true}
use Rattle.std.proofs.Common.{not, Option, Some, None, arith}
use Rattle.std.specs.Prelude.{◌&&◌, if◌then◌else◌}
use Rattle.pli_typing.specs.declared.typed.Numbers as Q
use Rattle.pli_typing.specs.declared.typed.Reference as R
use Rattle.pli_typing.specs.declared.typed.Stored as S
use Rattle.pli_typing.specs.TypedTree as Y
use Rattle.pli_typing.specs.TypedView.{numbers_of, part_of, reference_of, stored_of, variable_of, pointer_of}
use Rattle.pli_coding.specs.Registers.{zero_register, a0}
use Rattle.pli_coding.specs.Assembly.{Code}
use Rattle.pli_coding.specs.Instructions.{service, tested_service}
use Rattle.pli_coding.specs.Environments.{Environment, Taken, save, with_number, with_words}
use Rattle.pli_coding.specs.Locating.{behind_locator, leaf_number, is_direct, are_simple, is_referred}
use Rattle.pli_coding.specs.Expressions.{given_in, reference_code, stored_code, subscripts_code, pointer_code}
use Rattle.pli_coding.specs.Expressions.{pointer_to}
use Rattle.pli_coding.specs.Storing.{aggregate_given, behind_value, first_leaf, is_near, leaf_count}
use Rattle.pli_coding.specs.Storing.{record_code, record_stored, stored_into, subscript_count, subscripts_recorded}
use Rattle.pli_coding.specs.Storing.{value_saved, assigned_code, assignment_code, is_written_last, name_assigned}
use Rattle.pli_coding.specs.Storing.{place_assigned}
use Rattle.rv_expr.specs.Forms.{locator_of}
use Rattle.rv_assignment.specs.Pieces.{aggregate_put, counted_recorded, elements_put, elements_stored, name_kept}
use Rattle.rv_assignment.specs.Pieces.{name_put, part_put, part_recorded, part_taken, record_made, subscripts_made}
use Rattle.rv_assignment.specs.Pieces.{text_kept, top_put, value_kept, value_stored, word_put, pointer_assigned}
use Rattle.rv_assignment.specs.Pieces.{tells_no_extent}
use Rattle.pli_typing.specs.declared.typed.Pointer as P

-- ---- elements

pub word-is : (e : _) (t : _) (r : _)
    → word_put e t r ≡ (if is_near e r then reference_code e t r ++ value_stored e r else save a0 t
    ++ (reference_code e (with_number t) r ++ value_kept e t r))
unfolding word_put value_kept value_stored
word-is e t r = refl

pub near-Plain : (e : _) (v : _) (p : _) (ns : _) → is_near e (reference_of (R.Plain v p ns))
    ≡ (is_direct e (variable_of v) && are_simple e (numbers_of ns))
unfolding reference_of
near-Plain e v p ns = refl

pub near-Located : (e : _) (a : _) (l : _) (v : _) (p : _) (ns : _) → is_near e (reference_of (R.Located' a l v p ns))
    ≡ false
unfolding reference_of
near-Located e a l v p ns = refl

pub ruleset near = (near-Plain, near-Located)

pub top-is : (e : _) (t : _) (r : _) → top_put e t r ≡ reference_code e t r ++ text_kept e r
unfolding top_put text_kept
top-is e t r = refl

pub name-is : (e : _) (t : _) (r : _) → name_put e t r ≡ reference_code e (with_words 4 t) r ++ name_kept e t r
unfolding name_put name_kept
name-is e t r = refl

pub ruleset scalars = (word-is, top-is, name-is, append_assoc, append-nil)

pub into-Number : (e : _) (t : _) (r : _) (p : _) (n : _) → stored_into e t r (stored_of (S.Number p n)) ≡ word_put e t r
unfolding stored_of word_put
into-Number e t r p n = refl

pub into-Text : (e : _) (t : _) (r : _) (x : _) → stored_into e t r (stored_of (S.Text x)) ≡ top_put e t r
unfolding stored_of top_put
into-Text e t r x = refl

pub into-Bit : (e : _) (t : _) (r : _) (x : _) → stored_into e t r (stored_of (S.Bit x)) ≡ word_put e t r
unfolding stored_of word_put
into-Bit e t r x = refl

pub into-Pointer : (e : _) (t : _) (r : _) (x : _) → stored_into e t r (stored_of (S.Pointer x)) ≡ name_put e t r
unfolding stored_of name_put
into-Pointer e t r x = refl

pub into-Offset : (e : _) (t : _) (r : _) (x : _) → stored_into e t r (stored_of (S.Offset x)) ≡ word_put e t r
unfolding stored_of word_put
into-Offset e t r x = refl

pub ruleset kinds = (into-Number, into-Text, into-Bit, into-Pointer, into-Offset)

-- ---- assignments

written_is : (e : Environment) (r : Y.Reference) → is_written_last e (Y.AddressOf r) ≡ tells_no_extent e r
unfolding tells_no_extent
written_is e (Y.Referring v locator part subscripts) = refl

pub written-Null : (e : _) → is_written_last e (pointer_of P.Null) ≡ true
unfolding pointer_of
written-Null e = refl

pub written-In : (e : _) (a : _) (r : _) → is_written_last e (pointer_of (P.In' a r)) ≡ true
unfolding pointer_of
written-In e a r = refl

pub written-From : (e : _) (c : _) (a : _) (xs : _) → is_written_last e (pointer_of (P.From' c a xs)) ≡ true
unfolding pointer_of
written-From e c a xs = refl

pub written-AddressOf : (e : _) (a : _) (r : _) → is_written_last e (pointer_of (P.AddressOf' a r))
    ≡ tells_no_extent e (reference_of r)
unfolding pointer_of
written-AddressOf e a r = written_is e (reference_of r)

pub written-Into : (e : _) (a : _) (o : _) (area : _) → is_written_last e (pointer_of (P.Into' a o area)) ≡ true
unfolding pointer_of
written-Into e a o area = refl

pub extent-Plain : (e : _) (v : _) (p : _) (ns : _) → tells_no_extent e (reference_of (R.Plain v p ns))
    ≡ not (is_referred e (variable_of v) (part_of p))
unfolding reference_of tells_no_extent
extent-Plain e v p ns = refl

pub extent-Located : (e : _) (a : _) (l : _) (v : _) (p : _) (ns : _)
    → tells_no_extent e (reference_of (R.Located' a l v p ns)) ≡ not (is_referred e (variable_of v) (part_of p))
unfolding reference_of tells_no_extent
extent-Located e a l v p ns = refl

pub ruleset written = (
  written-Null,
  written-In,
  written-From,
  written-AddressOf,
  written-Into,
  extent-Plain,
  extent-Located,
)

pub pointer-Some : (e : _) (t : _) (r : _) (x : _) (z : _) → pointer_assigned e t r x (Some z) ≡ pointer_to e t z x
unfolding pointer_assigned
pointer-Some e t r x z = refl

pub pointer-None : (e : _) (t : _) (r : _) (x : _) → pointer_assigned e t r x None ≡ pointer_code e t x
    ++ name_put e t r
unfolding pointer_assigned
pointer-None e t r x = refl

assigned_is : (e : Environment) (t : Taken) (r : Y.Reference) (x : Y.Pointer) (o : Option ℤ) → name_assigned e t r x o
    ≡ pointer_assigned e t r x o
unfolding pointer_assigned name_put
assigned_is e t r x (Some z) = refl
assigned_is e t r x None = refl

pub assignment-Number : (e : _) (t : _) (r : _) (p : _) (n : _) → assignment_code e t r (stored_of (S.Number p n))
    ≡ assigned_code e t r (stored_of (S.Number p n))
unfolding stored_of
assignment-Number e t r p n = refl

pub assignment-Text : (e : _) (t : _) (r : _) (x : _) → assignment_code e t r (stored_of (S.Text x))
    ≡ assigned_code e t r (stored_of (S.Text x))
unfolding stored_of
assignment-Text e t r x = refl

pub assignment-Bit : (e : _) (t : _) (r : _) (x : _) → assignment_code e t r (stored_of (S.Bit x))
    ≡ assigned_code e t r (stored_of (S.Bit x))
unfolding stored_of
assignment-Bit e t r x = refl

pub assignment-Pointer : (e : _) (t : _) (r : _) (x : _) → assignment_code e t r (stored_of (S.Pointer x))
    ≡ pointer_assigned e t r (pointer_of x) (place_assigned e r (pointer_of x))
unfolding stored_of
assignment-Pointer e t r x = assigned_is e t r (pointer_of x) (place_assigned e r (pointer_of x))

pub assignment-Offset : (e : _) (t : _) (r : _) (x : _) → assignment_code e t r (stored_of (S.Offset x))
    ≡ assigned_code e t r (stored_of (S.Offset x))
unfolding stored_of
assignment-Offset e t r x = refl

pub ruleset assignments = (
  pointer-Some,
  pointer-None,
  assignment-Number,
  assignment-Text,
  assignment-Bit,
  assignment-Pointer,
  assignment-Offset,
  append_assoc,
  append-nil,
)

-- ---- parts

pub first-Plain : (v : _) (p : _) (ns : _) → first_leaf (reference_of (R.Plain v p ns)) ≡ (part_of p).first
unfolding reference_of
first-Plain v p ns = refl

pub first-Located : (a : _) (l : _) (v : _) (p : _) (ns : _) → first_leaf (reference_of (R.Located' a l v p ns)) ≡ (part_of p).first
unfolding reference_of
first-Located a l v p ns = refl

pub count-Plain : (v : _) (p : _) (ns : _) → leaf_count (reference_of (R.Plain v p ns)) ≡ (part_of p).count
unfolding reference_of
count-Plain v p ns = refl

pub count-Located : (a : _) (l : _) (v : _) (p : _) (ns : _) → leaf_count (reference_of (R.Located' a l v p ns)) ≡ (part_of p).count
unfolding reference_of
count-Located a l v p ns = refl

pub given-Plain : (v : _) (p : _) (ns : _) → subscript_count (reference_of (R.Plain v p ns)) ≡ given_in (numbers_of ns)
unfolding reference_of
given-Plain v p ns = refl

pub given-Located : (a : _) (l : _) (v : _) (p : _) (ns : _) → subscript_count (reference_of (R.Located' a l v p ns)) ≡ given_in (numbers_of ns)
unfolding reference_of
given-Located a l v p ns = refl

pub recorded-Plain : (e : _) (t : _) (f : _) (v : _) (p : _) (ns : _) → part_recorded e t f (reference_of (R.Plain v p ns)) ≡ subscripts_made e t f (variable_of v) (part_of p) (numbers_of ns)
unfolding reference_of part_recorded
recorded-Plain e t f v p ns = refl

pub recorded-Located : (e : _) (t : _) (f : _) (a : _) (l : _) (v : _) (p : _) (ns : _) → part_recorded e t f (reference_of (R.Located' a l v p ns)) ≡ subscripts_made e t f (variable_of v) (part_of p) (numbers_of ns)
unfolding reference_of part_recorded
recorded-Located e t f a l v p ns = refl

pub ruleset parts = (
  first-Plain,
  first-Located,
  count-Plain,
  count-Located,
  given-Plain,
  given-Located,
  recorded-Plain,
  recorded-Located,
)

-- ---- records

pub recorded-End : (e : _) (t : _) (w : _) (v : _) (p : _) → subscripts_recorded e t w v p (numbers_of Q.End)
    ≡ record_stored t 2 zero_register
unfolding numbers_of
recorded-End e t w v p = refl

pub recorded-More : (e : _) (t : _) (w : _) (v : _) (p : _) (a : _) (n : _) (b : _) (ns : _)
    → subscripts_recorded e t w v p (numbers_of (Q.More' a n b ns))
    ≡ counted_recorded e t w (leaf_number e v p.first) (numbers_of (Q.More' a n b ns))
unfolding numbers_of
recorded-More e t w v p a n b ns = refl

pub ruleset given = (recorded-End, recorded-More, append_assoc, append-nil)

pub made-is : (e : _) (t : _) (f : _) (v : _) (p : _) (ns : _) → subscripts_made e t f v p ns ≡ subscripts_code e (behind_locator v f) ns ++ record_made e t f v p ns
unfolding subscripts_made
made-is e t f v p ns = refl

pub record-is : (e : Environment) (t : Taken) (r : Y.Reference) → record_code e t r ≡ locator_of e (with_words 4 t) r ++ part_recorded e t (with_words 4 t) r
unfolding locator_of part_recorded subscripts_made record_made
record-is e t (Y.Referring v locator part subscripts) = refl

pub ruleset records = (made-is, record-is, append_assoc, append-nil)

-- ---- aggregates

pub elements-are : (e : _) (t : _) (target : _) (source : _) → elements_put e t target source ≡ stored_code e t source ++ (value_saved t source ++ (record_code e (behind_value source t) target ++ elements_stored e t (behind_value source t) target source))
unfolding elements_put elements_stored
elements-are e t target source = refl

regroup : (a b c d f g : Code) → a ++ (b ++ (c ++ (d ++ (f ++ g)))) ≡ a ++ ((b ++ c) ++ (d ++ (f ++ g)))
regroup a b c d f g = ap (λ u. a ++ u) (sym (append_assoc b c (d ++ (f ++ g))))

pub aggregate-is : (e : Environment) (t : Taken) (target source : Y.Reference) → aggregate_put e t target source ≡ record_code e t source ++ (part_taken e t source ++ (record_code e t target ++ part_put e t target))
unfolding aggregate_put part_taken part_put
aggregate-is e t target source = regroup (record_code e t source) (aggregate_given e t source 0) (service 40) (record_code e t target) (aggregate_given e t target 1) (tested_service 40)

pub ruleset aggregates = (elements-are, aggregate-is, append_assoc, append-nil)
