-- What each step of the code of extents gives, by what is known of it.
use Rattle.std.proofs.Common.{◌≡◌, ◌≤◌, ℕ, zero, suc, ◌+◌, ◌<◌, Bool, true, false, true≢false, List, [], ◌∷◌, ◌++◌, map, length, drop, get_or, Option, Some, None, refl, sym, ap, ◌∙◌, append_assoc, append-nil, add-one, arith}
use Rattle.std.specs.Prelude.{slice_get, if◌then◌else◌}
use Rattle.rv_meaning.specs.declared.instr.Register.{Register}
use Rattle.pli_typing.specs.declared.typed.Evaluation.{Evaluation}
use Rattle.pli_typing.specs.declared.typed.Leaf.{Leaf}
use Rattle.pli_typing.specs.TypedTree as Y
use Rattle.pli_typing.specs.TypedView.{leaf_of, number_of}
use Rattle.pli_typing.specs.TypedStatementView.{check_of, evaluation_of}
use Rattle.pli_meaning.specs.Numbers.{operator_precision}
use Rattle.pli_coding.specs.Registers.{a0, a3}
use Rattle.pli_coding.specs.Assembly.{Datum, Code}
use Rattle.pli_coding.specs.Instructions.{constant, number}
use Rattle.pli_coding.specs.StaticForms.{size_datum}
use Rattle.pli_coding.specs.Environments.{Environment, Taken, declaration_of, with_words}
use Rattle.pli_coding.specs.Locating.{table_number}
use Rattle.pli_coding.specs.Expressions.{number_code}
use Rattle.pli_coding.specs.Extents.{checked_code, constant_filled, constants_filled, evaluations_code, extent_words, extents_code, filled_in, initial_given, is_kept_by, member_precision}
use Rattle.rv_address.proofs.Declared.{at_map, shown_from}
use Rattle.rv_extent.specs.Pieces.{declared_extents, evaluation_code, greater_filled, is_greater_area, number_begun, signature_kept}

-- ---- data

pub places_filled : (code after : Code) (t : Taken) (d e : Datum) → d ≡ e → after ≡ code ++ filled_in t d → after ≡ code ++ filled_in t e
places_filled code after t d e is h = h ∙ ap (λ x. code ++ filled_in t x) is

pub values_given : (code after : Code) (r : Register) (o p : Option Datum) → o ≡ p → after ≡ code ++ initial_given r o → after ≡ code ++ initial_given r p
values_given code after r o p is h = h ∙ ap (λ x. code ++ initial_given r x) is

-- ---- constant sizes of areas

either : (b : Bool) (code after some : Code) → b ≡ true → after ≡ code ++ some → after ≡ code ++ (if b then some else [])
either true code after some e h = h
either false code after some e h = absurd (true≢false (sym e))

neither : (b : Bool) (code some : Code) → b ≡ false → code ≡ code ++ (if b then some else [])
neither true code some e = absurd (true≢false e)
neither false code some e = sym (append-nil code)

pub area_filled : (code after : Code) (t : Taken) (leaves : List Y.Leaf) (size : Y.Extent) → is_greater_area size ≡ true → after ≡ code ++ greater_filled t leaves size → after ≡ code ++ constant_filled t leaves (Y.AreaLeaf size)
area_filled code after t leaves (Y.ConstantExtent z) e h = either (is_greater_area (Y.ConstantExtent z)) code after (constant a3 z ++ filled_in t (size_datum (Y.ConstantExtent z) leaves)) e h
area_filled code after t leaves Y.StarExtent e h = absurd (true≢false (sym e))
area_filled code after t leaves Y.ReferExtent e h = absurd (true≢false (sym e))
area_filled code after t leaves (Y.EvaluatedExtent n) e h = absurd (true≢false (sym e))

pub area_told : (code : Code) (t : Taken) (leaves : List Y.Leaf) (size : Y.Extent) → is_greater_area size ≡ false → code ≡ code ++ constant_filled t leaves (Y.AreaLeaf size)
area_told code t leaves (Y.ConstantExtent z) e = neither (is_greater_area (Y.ConstantExtent z)) code (constant a3 z ++ filled_in t (size_datum (Y.ConstantExtent z) leaves)) e
area_told code t leaves Y.StarExtent e = sym (append-nil code)
area_told code t leaves Y.ReferExtent e = sym (append-nil code)
area_told code t leaves (Y.EvaluatedExtent n) e = sym (append-nil code)

-- ---- evaluations

pub next_evaluation : (e : Environment) (t : Taken) (d : Y.DeclaredVariable) (xs : List Evaluation) (i : ℕ) (x : Evaluation) (code after target : Code) → i < length xs → x ≡ get_or xs i x → after ≡ code ++ evaluation_code e t d i (evaluation_of x)
    → code ++ evaluations_code e t d i (map evaluation_of (drop i xs)) ≡ target → after ++ evaluations_code e t d (i + 1) (map evaluation_of (drop (i + 1) xs)) ≡ target
unfolding evaluation_code
next_evaluation e t d xs i x code after target h k a is =
    let rest : List Y.Evaluation = map evaluation_of (drop (i + 1) xs) in
    let value : Code = number_code e (with_words extent_words t) (number_of x.value) in
    let checked : Code = checked_code t i (is_kept_by i d.refer) d.leaves (check_of x.check) in
    ap (λ u. u ++ evaluations_code e t d (i + 1) rest) a
    ∙ append_assoc code (value ++ checked) (evaluations_code e t d (i + 1) rest)
    ∙ ap (λ u. code ++ u) (append_assoc value checked (evaluations_code e t d (i + 1) rest))
    ∙ ap (λ n. code ++ (value ++ (checked ++ evaluations_code e t d n rest))) (add-one i)
    ∙ ap (λ ys. code ++ evaluations_code e t d i ys) (sym (shown_from evaluation_of xs i x h k))
    ∙ is

-- ---- all extents

with_table : (e : Environment) (t : Taken) (d : Y.DeclaredVariable) → declared_extents e t (table_number e d) d ≡ extents_code e t d
unfolding declared_extents number_begun
with_table e t d = append_assoc (number a0 (table_number e d)) (signature_kept t) (constants_filled t d.leaves ++ evaluations_code e t d 0 d.evaluations)

pub of_declaration : (code after : Code) (e : Environment) (t : Taken) (n : ℕ) (d : Y.DeclaredVariable) (v : Y.Variable) → d ≡ declaration_of e v → n ≡ table_number e (declaration_of e v) → after ≡ code ++ declared_extents e t n d → after ≡ code ++ extents_code e t (declaration_of e v)
of_declaration code after e t n d v is s h =
    h
    ∙ ap (λ m. code ++ declared_extents e t m d) s
    ∙ ap (λ x. code ++ declared_extents e t (table_number e (declaration_of e v)) x) is
    ∙ ap (λ u. code ++ u) (with_table e t (declaration_of e v))

-- ---- the REFER member

nowhere : {X Z : Type 0} (f : X → Z) (xs : List X) (n : ℕ) → length xs ≤ n → slice_get (map f xs) n ≡ None
nowhere f [] n h = refl
nowhere f (y ∷ xs) zero h = absurd (omega arith)
nowhere f (y ∷ xs) (suc n) h = nowhere f xs n (omega arith)

pub member_here : (xs : List Leaf) (n : ℕ) (x : Leaf) (p : ℕ) → n < length xs → x ≡ get_or xs n x → p ≡ member_precision (Some (leaf_of x)) → p ≡ member_precision (slice_get (map leaf_of xs) n)
member_here xs n x p h k e = e ∙ ap member_precision (sym (at_map leaf_of xs n x h k))

pub member_nowhere : (xs : List Leaf) (n : ℕ) → length xs ≤ n → operator_precision ≡ member_precision (slice_get (map leaf_of xs) n)
member_nowhere xs n h = ap member_precision (sym (nowhere leaf_of xs n h))
