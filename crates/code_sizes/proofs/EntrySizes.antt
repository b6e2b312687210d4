-- The code that enters and leaves blocks, and makes their variables, has no more words than these take.
use Rattle.std.proofs.Common.{ℕ, zero, suc, ◌+◌, ◌*◌, ◌≤◌, ◌==◌, List, [], ◌∷◌, ◌++◌, Bool, true, false, arith, ℤ, pos}
use Rattle.std.proofs.Common.{Option, Some, None, if◌then◌else◌}
use Rattle.std.specs.Prelude.{min, nat_lt, neg_ℤ}
use Rattle.rv_meaning.specs.declared.instr.Register.{Register}
use Rattle.pli_typing.specs.TypedTree as Y
use Rattle.pli_coding.specs.Registers.{return_register, stack_register, frame_register, held, a0, a1, a2, a3, a4, u0}
use Rattle.pli_coding.specs.Registers.{u1, u2}
use Rattle.pli_coding.specs.Assembly.{Datum, BaseIn, Code, size_of}
use Rattle.pli_coding.specs.Instructions.{subtract, constant, number, small, move, plus, load_word, store_word, service}
use Rattle.pli_coding.specs.Frames.{saved_register, display, temporary_bytes, frame_below, frame_bytes, own_offset}
use Rattle.pli_coding.specs.Frames.{lower_top}
use Rattle.pli_coding.specs.Frames.{has_constant_size, is_automatic, greatest_area, capacity_of, name_bytes}
use Rattle.pli_coding.specs.Frames.{automatic_place, last_place, fixed_size}
use Rattle.pli_coding.specs.Environments.{Environment, Taken, none_taken, with_words}
use Rattle.pli_coding.specs.StaticForms.{size_datum, bounds_datum}
use Rattle.pli_coding.specs.Locating as L
use Rattle.pli_coding.specs.Expressions as X
use Rattle.pli_coding.specs.Extents as E
use Rattle.pli_coding.specs.Entries as N
use Rattle.code_sizes.specs.StatementSizes.{evaluations_size, extents_size, made_size, automatic_size, variables_size}
use Rattle.code_sizes.specs.StatementSizes.{display_size}
use Rattle.code_sizes.proofs.PieceSizes.{both, one_of, none, constant_most, number_most, load_most, store_most}
use Rattle.code_sizes.proofs.PieceSizes.{plus_most, own_most}
use Rattle.code_sizes.proofs.ExpressionSizes.{number_sized}
use Rattle.code_sizes.proofs.StoringSizes.{initial_most, act_most}

-- ---- frames

pub registers_saved_most : (frame : Register) (n left : ℕ) → size_of (N.registers_saved frame n left) ≤ 3 * left
registers_saved_most frame n zero = none
registers_saved_most frame n (suc left) =
    let all = both (store_word frame (held n) (saved_register n)) _ (store_most frame (held n) (saved_register n))
    (registers_saved_most frame (suc n) left) in
    omega (arith, all)

pub registers_restored_most : (n left : ℕ) → size_of (N.registers_restored n left) ≤ 3 * left
registers_restored_most n zero = none
registers_restored_most n (suc left) =
    let all = both (load_word (held n) frame_register (saved_register n)) _
    (load_most (held n) frame_register (saved_register n)) (registers_restored_most (suc n) left) in
    omega (arith, all)

-- how many registers are saved
abbrev pub held_of : Option ℕ → ℕ
held_of None = 0
held_of (Some n) = 3 * n + 1

saved_most : (o : Option ℕ) → size_of (N.saved_if o) ≤ held_of o
saved_most None = none
saved_most (Some n) = let m = registers_saved_most u0 0 n in omega (arith, m)

pub few_held : (n : ℕ) → min 7 n ≤ 7
few_held n = omega arith

copied_most : (n left : ℕ) → size_of (N.display_copied n left) ≤ 3 + 6 * left
copied_most n zero = store_most frame_register a0 (display n)
copied_most n (suc left) =
    let all = both (load_word u1 a0 (display n)) _ (load_most u1 a0 (display n))
    (both (store_word frame_register u1 (display n)) _ (store_most frame_register u1 (display n))
    (copied_most (suc n) left)) in
    omega (arith, all)

made_most : (level : ℕ) → size_of (N.display_made level) ≤ display_size level
made_most zero = none
made_most (suc outer) = let m = copied_most 0 outer in omega (arith, m)

pub begun_most : (words level parameters : ℕ) (saved : Option ℕ)
    → size_of (N.frame_begun words level parameters saved) ≤ display_size level + (held_of saved + 14)
begun_most words level parameters saved =
    let start = plus_most u0 stack_register (pos (temporary_bytes words)) in
    let last = plus_most stack_register frame_register (pos (fixed_size level parameters)) in
    let fixed = pos (fixed_size level parameters) in
    let own : Code = BaseIn u1
    ∷ subtract u1 frame_register u1
    ∷ (store_word frame_register u1 own_offset ++ plus stack_register frame_register fixed) in
    let made : Code = store_word u0 frame_register frame_below
    ++ (load_word u1 frame_register lower_top
    ++ (move frame_register u0 ∷ (store_word frame_register u1 lower_top ++ (N.display_made level ++ own)))) in
    let behind = both (N.display_made level) own (made_most level) {n = 7} (omega (arith, last)) in
    let frame = both (N.saved_if saved) made (saved_most saved) {n = 4 + (display_size level + 7)}
    (omega (arith, behind)) in
    let all = both (plus u0 stack_register (pos (temporary_bytes words))) (N.saved_if saved ++ made) start frame in
    omega (arith, all)

pub ended_most : (words : ℕ) → size_of (N.frame_ended words) ≤ 4
ended_most words =
    both (plus stack_register frame_register (neg_ℤ (pos (temporary_bytes words)))) _
    (plus_most stack_register frame_register (neg_ℤ (pos (temporary_bytes words)))) {n = 1} (omega arith)

pub entered_most : (kind line : ℕ) → size_of (N.entered_without_texts kind line) ≤ 7
entered_most kind line =
    let m = both (number a2 line) (service 4) (number_most a2 line) {n = 2} (omega arith) in omega (arith, m)

-- ---- extents

filled_most : (t : Taken) (d : Datum) → size_of (E.filled_in t d) ≤ 13
filled_most t d =
    let last = both (store_word frame_register a0 (E.number_word t)) _
    (store_most frame_register a0 (E.number_word t)) (store_most frame_register a1 (E.bytes_word t)) in
    both (load_word a0 frame_register (E.number_word t)) _ (load_most a0 frame_register (E.number_word t)) {n = 10}
    (omega (arith, last))

kept_most : (t : Taken) (b : Bool) (d : Datum) → size_of (E.filled_or_kept t b d) ≤ 13
kept_most t true d = let m = store_most frame_register a3 (E.refer_word t) in omega (arith, m)
kept_most t false d = filled_most t d

given_most : (t : Taken) (r : Register) (place : ℕ) (x : Y.Extent) → size_of (E.extent_given t r place x) ≤ 3
given_most t r place (Y.ConstantExtent z) = let m = constant_most r z in omega (arith, m)
given_most t r place (Y.EvaluatedExtent n) =
    one_of (n == place) _ _ (omega arith) (load_most r frame_register (E.lower_word t))
given_most t r place Y.StarExtent = none
given_most t r place Y.ReferExtent = none

checked_most : (t : Taken) (place : ℕ) (b : Bool) (ls : List Y.Leaf) (c : Y.Check)
    → size_of (E.checked_code t place b ls c) ≤ 23
checked_most t place b ls Y.NoCheck = let m = store_most frame_register a0 (E.lower_word t) in omega (arith, m)
checked_most t place b ls Y.LengthCheck =
    let m = kept_most t b (size_datum (Y.EvaluatedExtent place) ls) in omega (arith, m)
checked_most t place b ls Y.SizeCheck =
    let m = kept_most t b (size_datum (Y.EvaluatedExtent place) ls) in omega (arith, m)
checked_most t place b ls (Y.BoundsCheck bounds) =
    let checked = both (E.extent_given t a2 place bounds.lower) _ (given_most t a2 place bounds.lower)
    (both (E.extent_given t a3 place bounds.upper) _ (given_most t a3 place bounds.upper) {n = 4} (omega arith)) in
    both (E.bounds_checked t place bounds) _ {m = 10} checked (kept_most t b (bounds_datum bounds ls))

evaluations_most : (e : Environment) (t : Taken) (d : Y.DeclaredVariable) (place : ℕ) (xs : List Y.Evaluation)
    → size_of (E.evaluations_code e t d place xs) ≤ evaluations_size xs
evaluations_most e t d place [] = none
evaluations_most e t d place (x ∷ xs) =
    let all = both (X.number_code e (with_words 4 t) x.value) _ (number_sized e (with_words 4 t) x.value)
    (both (E.checked_code t place (E.is_kept_by place d.refer) d.leaves x.check) _
    (checked_most t place (E.is_kept_by place d.refer) d.leaves x.check)
    (evaluations_most e t d (suc place) xs)) in
    omega (arith, all)

constant_filled_most : (t : Taken) (ls : List Y.Leaf) (type : Y.LeafType)
    → size_of (E.constant_filled t ls type) ≤ 15
constant_filled_most t ls (Y.AreaLeaf (Y.ConstantExtent z)) =
    one_of (nat_lt greatest_area (capacity_of z)) _ _
    (both (constant a3 z) _ (constant_most a3 z) (filled_most t (size_datum (Y.ConstantExtent z) ls))) none
constant_filled_most t ls (Y.AreaLeaf Y.StarExtent) = none
constant_filled_most t ls (Y.AreaLeaf Y.ReferExtent) = none
constant_filled_most t ls (Y.AreaLeaf (Y.EvaluatedExtent n)) = none
constant_filled_most t ls (Y.FixedLeaf p) = none
constant_filled_most t ls (Y.CharacterLeaf x) = none
constant_filled_most t ls (Y.VaryingLeaf x) = none
constant_filled_most t ls Y.BitLeaf = none
constant_filled_most t ls Y.PointerLeaf = none
constant_filled_most t ls (Y.OffsetLeaf area) = none

constants_most : (t : Taken) (ls : List Y.Leaf) → size_of (E.constants_filled t ls) ≤ 15
constants_most t [] = none
constants_most t (l ∷ []) = constant_filled_most t (l ∷ []) l.type
constants_most t (l ∷ m ∷ ls) = none

pub extents_most : (e : Environment) (t : Taken) (d : Y.DeclaredVariable)
    → size_of (E.extents_code e t d) ≤ extents_size d
extents_most e t d =
    let all = both (number a0 (L.table_number e d)) _ (number_most a0 (L.table_number e d))
    (both (store_word frame_register a0 (E.number_word t)) _ (store_most frame_register a0 (E.number_word t))
    (both (E.constants_filled t d.leaves) _ (constants_most t d.leaves) (evaluations_most e t d 0 d.evaluations))) in
    omega (arith, all)

-- ---- AUTOMATIC variables

constant_made_most : (e : Environment) (place : ℕ) (d : Y.DeclaredVariable)
    → size_of (N.constant_made e place d) ≤ 18
constant_made_most e place d =
    let behind = pos (min last_place (place + frame_bytes e.parts d)) in
    let last = plus_most stack_register frame_register behind in
    both (L.own_place e a0 (pos place)) _ (own_most e a0 (pos place))
    (both (number a1 (L.table_number e d)) _ (number_most a1 (L.table_number e d))
    (both (E.initial_code a2 d) _ (initial_most a2 d)
    (both (L.own_place e a3 (pos (place + name_bytes))) _ (own_most e a3 (pos (place + name_bytes))) {n = 6}
    (omega (arith, last)))))

act_if_most : (line : ℕ) (xs : List Y.Evaluation) → size_of (N.extents_act line xs) ≤ 5
act_if_most line [] = none
act_if_most line (x ∷ xs) = act_most line

adjustable_most : (e : Environment) (line place : ℕ) (d : Y.DeclaredVariable)
    → size_of (N.adjustable_made e line place d) ≤ extents_size d + 27
adjustable_most e line place d =
    let initial : Code = E.initial_code a2 d ++ (move a3 u1 ∷ small a4 0 ∷ service 7) in
    let number_kept = E.number_word none_taken in
    let named : Code = load_word a1 frame_register number_kept ++ initial in
    let bytes = E.bytes_word none_taken in
    let placed : Code = N.lower_taken ++ (L.own_place e a0 (pos place) ++ named) in
    let taken : Code = load_word u2 frame_register bytes ++ placed in
    let all = both (N.extents_act line d.evaluations) _ (act_if_most line d.evaluations)
    (both (E.extents_code e none_taken d) _ (extents_most e none_taken d)
    (both (plus stack_register frame_register (pos (place + name_bytes))) taken
    (plus_most stack_register frame_register (pos (place + name_bytes)))
    (both (load_word u2 frame_register bytes) placed (load_most u2 frame_register bytes)
    (both N.lower_taken (L.own_place e a0 (pos place) ++ named) {m = 3} (omega arith)
    (both (L.own_place e a0 (pos place)) named (own_most e a0 (pos place))
    (both (load_word a1 frame_register number_kept) initial (load_most a1 frame_register number_kept)
    (both (E.initial_code a2 d) (move a3 u1 ∷ small a4 0 ∷ service 7) (initial_most a2 d) {n = 4}
    (omega arith)))))))) in
    omega (arith, all)

automatic_most : (e : Environment) (line place : ℕ) (d : Y.DeclaredVariable)
    → size_of (N.automatic_made e line place d) ≤ made_size d
automatic_most e line place d = by (has_constant_size d) where
  by : (b : Bool) → size_of (if b then N.constant_made e place d else N.adjustable_made e line place d)
      ≤ (if b then 18 else extents_size d + 27)
  by true = constant_made_most e place d
  by false = adjustable_most e line place d

variable_most : (e : Environment) (line index : ℕ) (d : Y.DeclaredVariable)
    → size_of (if is_automatic d.class
    then N.automatic_made e line (automatic_place e.parts e.program e.block e.level index) d else [])
    ≤ automatic_size d
variable_most e line index d = by (is_automatic d.class) where
  by : (b : Bool) → size_of (if b
      then N.automatic_made e line (automatic_place e.parts e.program e.block e.level index) d else [])
      ≤ (if b then made_size d else 0)
  by true = automatic_most e line (automatic_place e.parts e.program e.block e.level index) d
  by false = none

pub variables_most : (e : Environment) (line index : ℕ) (ds : List Y.DeclaredVariable)
    → size_of (N.variables_made e line index ds) ≤ variables_size ds
variables_most e line index [] = none
variables_most e line index (d ∷ ds) =
    both (if is_automatic d.class
    then N.automatic_made e line (automatic_place e.parts e.program e.block e.level index) d else []) _
    (variable_most e line index d) (variables_most e line (suc index) ds)
